use Rattle.std.proofs.Common.{sym, refl, subst}
use Rattle.std.specs.declared.ops.ControlFlow.TheVariants.{Continue}
use Rattle.texts.specs.Walks.{Stepped}
use Rattle.texts.proofs.Walking.{at_star}
use Rattle.texts.proofs.matching.walk.Walk.behind_star.Goals as goal

pub returns : goal.returns
returns c =
    let self = c.args.self in
    subst (λ v. Stepped self (Continue v)) (sym c.onward.ensures)
    (at_star self.pattern.now self.text.now self.star c.requires.sound (record { pattern = c.args.pattern; text = self.text }) c.requires.here refl)
