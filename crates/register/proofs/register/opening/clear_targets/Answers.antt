use Rattle.std.proofs.Common.{length, replicate, ap, ◌∙◌}
use Rattle.register.proofs.Opening.{all_unlinked}
use Rattle.register.proofs.register.opening.clear_targets.Goals as goal

pub returns : goal.returns
returns c =
    let targets = c.args.targets.now in
    c.fill.ensures.after (λ y e. e) ∙ ap (replicate (length targets)) c.unlinked.ensures ∙ all_unlinked targets
