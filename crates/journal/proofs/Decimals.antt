-- A word read as a decimal number, digit by digit. Assumes nothing.
use Rattle.std.proofs.Common.{◌≡◌, ℕ, ◌+◌, ◌*◌, ◌^◌, ◌<◌, ◌≤◌, List, [], ◌∷◌, length, Some, None, Option, MatchOption, refl, sym, arith}
use Rattle.std.specs.Str.Parse.{AllDigits, digits_value, digits_value_after}
use Rattle.std.specs.Char.{digit_value}
use Rattle.std.specs.Option.{SomeIff}
use Rattle.journal.specs.Numbers.{Decimal}

-- what is left of the word, after a front that writes n, decides what the word writes
pub record Sofar (word rest : List ℕ) (n : ℕ) : Type 0 where
  pub writes : digits_value_after 10 n rest ≡ digits_value 10 word
  pub back : AllDigits 10 rest → AllDigits 10 word
  pub forth : AllDigits 10 word → AllDigits 10 rest
  pub small : n < 2 ^ 32

pub begun : (word : List ℕ) → Sofar word word 0
begun word = record { writes = refl; back = λ h. h; forth = λ h. h; small = omega arith }

value_after_ge : (n : ℕ) (ds : List ℕ) → n ≤ digits_value_after 10 n ds
value_after_ge n [] = omega arith
value_after_ge n (d ∷ ds) = omega (arith, value_after_ge (n * 10 + digit_value d) ds)

-- a digit goes on with the next number; a byte that is no digit, or a digit too many, ends the reading
pub turn :
    (word : List ℕ) (b n : ℕ) (next : Option ℕ) → SomeIff next ((digit_value b < 10) × (n * 10 + digit_value b < 2 ^ 32)) (n * 10 + digit_value b)
    → MatchOption next ((rest : List ℕ) → Sofar word (b ∷ rest) n → (m : ℕ) → Decimal word m → ⊥) (λ m. (rest : List ℕ) → Sofar word (b ∷ rest) n → Sofar word rest m)
turn word b n None fails = λ rest s m d.
    fails ((s.forth d.digits.1).0, omega (arith, value_after_ge (n * 10 + digit_value b) rest, s.writes, d.writes, d.small))
turn word b n (Some m) told = λ rest s.
    rw told.1 (record { writes = s.writes; back = λ h. s.back (told.0.0, h); forth = λ h. (s.forth h).1; small = told.0.1 })

pub ended : (word : List ℕ) (o : Option ℕ) → 0 < length word → MatchOption o ((n : ℕ) → Decimal word n → ⊥) (λ n. Sofar word [] n) → MatchOption o ((n : ℕ) → Decimal word n → ⊥) (λ n. Decimal word n)
ended word None some never = never
ended word (Some n) some s = record { digits = (some, s.back tt); writes = sym s.writes; small = s.small }
