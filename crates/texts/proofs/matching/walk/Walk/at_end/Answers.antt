use Rattle.std.proofs.Common.{rules}
use Rattle.texts.proofs.Walking.{ends_together, text_left}
use Rattle.texts.proofs.matching.walk.Walk.at_end.Goals as goal

pub returns-then-is_empty : goal.returns-then-is_empty
returns-then-is_empty c =
    ends_together c.args.self.pattern.now c.args.self.text.now c.args.self.star c.requires.done (search rules)

pub retry-requires : goal.retry-requires
retry-requires c = text_left c.args.self.pattern.now c.args.self.text.now c.requires.done (search rules)
