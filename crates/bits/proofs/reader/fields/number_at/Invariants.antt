use Rattle.std.proofs.Common.{◌≡◌, ◌+◌, ◌-◌, ◌*◌, ◌<◌, ◌≤◌, take, drop}
use Rattle.std.specs.Int.Digits.{number_from_digits}
use Rattle.bits.specs.Digits.{bits}
use Rattle.bits.proofs.reader.fields.number_at.Given as goal

-- how far it came, and what the bits up to there spell
abbrev pub invariant-loop-left : goal.invariant-loop-left
invariant-loop-left l =
    (l.left ≤ l.width) × (l.used < 8) × (8 * l.byte + l.used ≡ l.start + (l.width - l.left))
    × (l.v ≡ number_from_digits 2 (take (l.width - l.left) (drop l.start (bits l.src))))

abbrev pub decreases-loop-left : goal.decreases-loop-left
decreases-loop-left l = l.left
