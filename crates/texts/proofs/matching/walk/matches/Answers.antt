use Rattle.std.proofs.Common.{◌||◌, ap, ◌∙◌, inl}
use Rattle.std.proofs.Math.Bool.{or-false}
use Rattle.texts.specs.Matching.{matches}
use Rattle.texts.proofs.Walking.{nothing_longer}
use Rattle.texts.proofs.matching.walk.matches.Goals as goal

pub loop-next-init : goal.loop-next-init
loop-next-init c =
    let whole = matches c.args.pattern.now c.args.text.now in
    (inl c.settled.ensures, ap (λ b. whole || b) (nothing_longer c.settled.result c.settled.ensures) ∙ or-false whole)
