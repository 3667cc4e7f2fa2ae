use Rattle.std.proofs.Common.{◌≤◌, sym, lt_of_lt_of_le, mod-eq_of_lt, arith, pow_mono}
use Rattle.notes.proofs.block.below.Goals as goal

pub returns-then-n-ge128 : goal.returns-then-n-ge128
returns-then-n-ge128 c = let n : 128 ≤ c.args.n = omega arith in sym (mod-eq_of_lt (lt_of_lt_of_le c.ranges.x.fits (pow_mono n)))
