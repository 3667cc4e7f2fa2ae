-- Parts of an address one behind the other. Assumes nothing.
use Rattle.std.specs.Prelude.{ℕ, ◌+◌, cond, List, [], ◌∷◌, length, Some, None, Option, nat_le}
use Rattle.std.specs.Int.Digits.{number_from_digits_after}
use Rattle.notes.specs.declared.family.Family.{Family}
use Rattle.addresses.specs.declared.row.Row.{Row}
use Rattle.addresses.specs.Forms.{size, base, part_of}

abbrev pub in_front : Option ℕ → Option (List ℕ) → Option (List ℕ)
in_front None ns = None
in_front (Some n) None = None
in_front (Some n) (Some ns) = Some (n ∷ ns)

-- the parts that the pieces write, if each of them writes one
unfoldable pub parts_of : Family → List (List ℕ) → Option (List ℕ)
parts_of family [] = Some []
parts_of family (p ∷ ps) = in_front (part_of family p) (parts_of family ps)

-- what a row says: a number with a digit for each part, and how many they are
pub record RowValue : Type 0 where
  pub family : Family
  pub bits : ℕ
  pub count : ℕ

abbrev pub row_value : Row → RowValue
row_value row = record { family = row.family; bits = row.bits; count = row.count }

abbrev pub empty : Family → RowValue
empty family = record { family = family; bits = 0; count = 0 }

-- the row with these parts behind it, if there is room for them
abbrev pub row_with : RowValue → Option (List ℕ) → Option RowValue
row_with row None = None
row_with row (Some ns) =
    cond (nat_le (row.count + length ns) (size row.family))
    (Some (record { family = row.family; bits = number_from_digits_after (base row.family) row.bits ns; count = row.count + length ns })) None
