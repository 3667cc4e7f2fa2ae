-- Decimal numbers. Assumes nothing.
use Rattle.std.specs.Prelude.{◌≡◌, ℕ, ◌^◌, ◌<◌, List}
use Rattle.std.specs.Str.Parse.{IsNumeral, digits_value}

-- the word is one digit or more and nothing else, and writes n, a number of 32 bits
pub record Decimal (word : List ℕ) (n : ℕ) : Type 0 where
  pub digits : IsNumeral 10 word
  pub writes : digits_value 10 word ≡ n
  pub small : n < 2 ^ 32
