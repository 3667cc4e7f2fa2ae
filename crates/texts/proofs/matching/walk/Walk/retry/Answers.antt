use Rattle.texts.proofs.Walking.{retried}
use Rattle.texts.proofs.matching.walk.Walk.retry.Goals as goal

pub returns : goal.returns
returns c =
    let self = c.args.self in
    retried self.pattern self.text c.requires self.star c.longer.result c.longer.ensures
