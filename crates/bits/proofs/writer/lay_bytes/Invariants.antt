use Rattle.std.proofs.Common.{◌≡◌, ℕ, ◌+◌, ◌*◌, ◌≤◌, length, take, drop}
use Rattle.bits.specs.Digits.{bits, laid}
use Rattle.bits.proofs.writer.lay_bytes.Given as goal

-- the bytes up to there are written, and none behind the text
abbrev pub invariant-loop-i : goal.invariant-loop-i
invariant-loop-i l =
    (bits l.out ≡ laid (bits l.initial.out) l.start (bits (take l.i l.text)))
    × ((k : ℕ) → l.start + 8 * length l.text ≤ 8 * k → drop k l.out ≡ drop k l.initial.out)
