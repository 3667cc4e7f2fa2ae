use Rattle.notes.specs.ConstraintsLemmas.{list_sound, list_sound_option}
use Rattle.notes.proofs.constraint.lists_sound.Goals as goal

pub returns : goal.returns
returns g c =
    let admits = g.C.Constraint.admitted in
    let covers = g.C.Constraint.covered in
    let sound = g.met.C.Constraint.sound in
    record { marked = list_sound admits covers sound; offered = list_sound_option admits covers sound }
