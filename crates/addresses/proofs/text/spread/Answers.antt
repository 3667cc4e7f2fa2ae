use Rattle.std.proofs.Common.{arith}
use Rattle.addresses.proofs.Fills.{leading_is, joined_fits}
use Rattle.addresses.proofs.text.spread.Goals as goal

pub overflow_add-result : goal.overflow_add-result
overflow_add-result c = omega (arith, leading_is c.args.first c.requires.0, joined_fits c.args.first c.args.last c.requires.0 c.requires.1.0 c.requires.1.1)

pub returns : goal.returns
returns c = rw (leading_is c.args.first c.requires.0)
