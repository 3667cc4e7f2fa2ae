use Rattle.std.proofs.Common.{◌<◌, arith}
use Rattle.bits.specs.Digits.{replaced}
use Rattle.bits.proofs.ByteLaws.{replaced_below, shifts}
use Rattle.bits.proofs.byte.with_run.Goals as goal

below : (c : goal.Start) → replaced c.args.b c.args.used c.args.n c.args.v < 256
below c = replaced_below c.args.b c.args.used c.args.n c.args.v c.requires.1.0 c.requires.1.1 c.ranges.b.fits

pub returns : goal.returns
returns c = shifts c.args.b c.args.used c.args.n c.args.v c.requires.1.0 c.requires.1.1 c.ranges.b.fits

pub overflow_add-result-2 : goal.overflow_add-result-2
overflow_add-result-2 c = record { fits = omega (arith, returns c, below c) }

pub overflow_cast-result-4 : goal.overflow_cast-result-4
overflow_cast-result-4 c = record { fits = omega (arith, returns c, below c) }
