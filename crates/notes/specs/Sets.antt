-- Sets of the numbers below a width, as numbers: of the width's digits the first stands for 0. Assumes nothing.
use Rattle.std.specs.Prelude.{ℕ, ◌-◌, ◌/◌, ◌%◌, ◌^◌, Bool, not, ◌&&◌, ◌==◌, bit_and, nat_lt}
use Rattle.bits.specs.Codec.{Reads, field}
use Rattle.notes.specs.Readings.{guard}
use Rattle.notes.specs.declared.set.Set.{Set}

-- the set whose digits spell the number
abbrev pub spelt : {W : ℕ} → ℕ → Set ℕ W
spelt n = record { bits = n }

-- v is in the set s
abbrev pub member : ℕ → ℕ → ℕ → Bool
member w s v = s / 2 ^ (w - 1 - v) % 2 == 1

-- each number of t is in s
abbrev pub contains : ℕ → ℕ → Bool
contains s t = bit_and s t == t

abbrev pub filled : ℕ → Bool
filled s = not (s == 0)

-- a set that is not empty
abbrev pub set_lawful : ℕ → ℕ → Bool
set_lawful w s = nat_lt s (2 ^ w) && filled s

-- fault 4 at an empty set
abbrev pub set_reads : ℕ → Reads ℕ
set_reads w = guard filled 4 (field w)
