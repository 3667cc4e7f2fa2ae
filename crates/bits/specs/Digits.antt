-- Bits as lists of the digits 0 and 1, the most significant first. Assumes nothing.
use Rattle.std.specs.Prelude.{ℕ, zero, suc, ◌+◌, ◌-◌, ◌*◌, ◌/◌, ◌%◌, ◌^◌, List, [], ◌∷◌, ◌++◌, length, take, drop}

-- the last w binary digits of v
unfoldable pub digits : ℕ → ℕ → List ℕ
digits zero v = []
digits (suc w) v = v / 2 ^ w % 2 ∷ digits w v

-- the bits of these bytes
unfoldable pub bits : List ℕ → List ℕ
bits [] = []
bits (b ∷ bs) = digits 8 b ++ bits bs

-- d with s laid over it from a place on
unfoldable pub laid : List ℕ → ℕ → List ℕ → List ℕ
laid d at s = take at d ++ (s ++ drop (at + length s) d)

-- what n bits of the byte b spell, behind its first `used`
abbrev pub run : ℕ → ℕ → ℕ → ℕ
run b used n = b / 2 ^ (8 - used - n) % 2 ^ n

-- the byte b with n of its bits, behind its first `used`, replaced by those of v
abbrev pub replaced : ℕ → ℕ → ℕ → ℕ → ℕ
replaced b used n v = (b / 2 ^ (8 - used) * 2 ^ n + v) * 2 ^ (8 - used - n) + b % 2 ^ (8 - used - n)
