-- Numbers of a few digits. Assumes nothing.
use Rattle.std.specs.Prelude.{ℕ, Bool, cond, ◌&&◌, List, length, Some, None, Option, ◌==◌, nat_le, nat_lt, slice_index}
use Rattle.std.specs.List.{list_all}
use Rattle.std.specs.Str.Parse.{digits_value}
use Rattle.std.specs.Char.{digit_value}

-- a digit of the base, a letter in either case
abbrev pub digit : ℕ → ℕ → Bool
digit base b = nat_lt (digit_value b) base

-- one digit of the base or more, at most so many, and nothing else
abbrev pub numeral : ℕ → ℕ → List ℕ → Bool
numeral base most piece = nat_lt 0 (length piece) && (nat_le (length piece) most && list_all (digit base) piece)

-- the number that a piece writes in the base, with at most so many digits
unfoldable pub numeral_of : ℕ → ℕ → List ℕ → Option ℕ
numeral_of base most piece = cond (numeral base most piece) (Some (digits_value base piece)) None

-- a zero stands in front of something
abbrev pub padded : List ℕ → Bool
padded piece = nat_lt 1 (length piece) && slice_index piece 0 == 48

abbrev pub up_to : ℕ → Option ℕ → Option ℕ
up_to most None = None
up_to most (Some n) = cond (nat_le n most) (Some n) None

-- a decimal number up to 255, without a zero in front
abbrev pub octet_of : List ℕ → Option ℕ
octet_of piece = cond (padded piece) None (up_to 255 (numeral_of 10 3 piece))
