-- What a reader stands for. Assumes nothing.
use Rattle.std.specs.Prelude.{◌≡◌, ℕ, ◌+◌, ◌*◌, ◌/◌, ◌≤◌, List, length, take, drop}
use Rattle.bits.specs.Digits.{bits}
use Rattle.bits.specs.declared.reader.BitReader.{BitReader}

-- the bytes that are read
abbrev pub bytes : BitReader → List ℕ
bytes r = r.src.now

-- their bits
abbrev pub source : BitReader → List ℕ
source r = bits (bytes r)

-- how many of these bits are read
abbrev pub place : BitReader → ℕ
place r = r.pos

-- t is the n bytes that stand at the bit p
pub record Part (whole : List ℕ) (p n : ℕ) (t : List ℕ) : Type 0 where
  pub inside : p + 8 * n ≤ 8 * length whole
  pub is : t ≡ take n (drop (p / 8) whole)
