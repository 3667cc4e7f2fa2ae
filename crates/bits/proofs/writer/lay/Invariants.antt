use Rattle.std.proofs.Common.{◌≡◌, ℕ, ◌+◌, ◌-◌, ◌*◌, ◌/◌, ◌^◌, ◌<◌, ◌≤◌, drop}
use Rattle.bits.specs.Digits.{digits, bits, laid}
use Rattle.bits.proofs.writer.lay.Given as goal

-- how far it came, and that the digits up to there are written, and no byte behind the field
abbrev pub invariant-loop-left : goal.invariant-loop-left
invariant-loop-left l =
    (l.left ≤ l.width) × (l.used < 8) × (8 * l.byte + l.used ≡ l.start + (l.width - l.left))
    × (bits l.out ≡ laid (bits l.initial.out) l.start (digits (l.width - l.left) (l.v / 2 ^ l.left)))
    × ((k : ℕ) → l.start + l.width ≤ 8 * k → drop k l.out ≡ drop k l.initial.out)

abbrev pub decreases-loop-left : goal.decreases-loop-left
decreases-loop-left l = l.left
