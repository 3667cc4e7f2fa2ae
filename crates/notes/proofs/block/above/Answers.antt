use Rattle.std.proofs.Common.{◌≤◌, sym, lt_of_lt_of_le, arith, pow_mono}
use native.Mathlib.Nat.{div-eq_of_lt}
use Rattle.notes.proofs.block.above.Goals as goal

pub returns-then-n-ge128 : goal.returns-then-n-ge128
returns-then-n-ge128 c = let n : 128 ≤ c.args.n = omega arith in sym (div-eq_of_lt (lt_of_lt_of_le c.ranges.x.fits (pow_mono n)))
