use Rattle.admission.proofs.Sound.{entries_sound, rules_sound}
use Rattle.admission.proofs.laws.covering_is_sound.Goals as goal

pub returns : goal.returns
returns c = record { entries = entries_sound; rules = rules_sound }
