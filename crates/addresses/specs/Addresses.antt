-- The text form of addresses. Assumes nothing.
use Rattle.std.specs.Prelude.{ℕ, ◌+◌, ◌-◌, ◌*◌, ◌^◌, cond, List, [], ◌∷◌, ◌++◌, length, replicate, Some, None, Option, ◌==◌, nat_lt}
use Rattle.std.specs.Option.{option_or}
use Rattle.std.specs.Int.Digits.{number_from_digits}
use Rattle.notes.specs.declared.block.Address.{Address}
use Rattle.notes.specs.declared.family.Family.{Family}
use Rattle.notes.specs.declared.family.Family.TheVariants.{Four, Six}
use Rattle.texts.specs.Pieces.{pieces}
use Rattle.addresses.specs.Forms.{size, base}
use Rattle.addresses.specs.Gaps.{around}
use Rattle.addresses.specs.Rows.{parts_of, RowValue}

-- the address that has these parts, if they are as many as the family has; the first part is the most significant
abbrev pub address_from : Family → Option (List ℕ) → Option Address
address_from family None = None
address_from family (Some ns) =
    cond (length ns == size family) (Some (record { family = family; bits = number_from_digits (base family) ns })) None

-- four decimal numbers between dots
abbrev pub four_of : List ℕ → Option Address
four_of word = address_from Four (parts_of Four (pieces 46 word))

-- the groups on one side of a double colon
abbrev pub side : List ℕ → Option (List ℕ)
side [] = Some []
side (b ∷ bs) = parts_of Six (pieces 58 (b ∷ bs))

-- zero groups, one or more, between the groups before and those after, so that there are eight
abbrev pub filled : Option (List ℕ) → Option (List ℕ) → Option (List ℕ)
filled None after = None
filled (Some before) None = None
filled (Some before) (Some after) =
    cond (nat_lt (length before + length after) 8)
    (Some (before ++ (replicate (8 - (length before + length after)) 0 ++ after))) None

-- the address with one row of groups at its beginning, another at its end, and zero groups between them, one or more
abbrev pub joined : RowValue → RowValue → Option Address
joined first last =
    cond (nat_lt (first.count + last.count) 8)
    (Some (record { family = Six; bits = first.bits * 65536 ^ (8 - first.count) + last.bits })) None

-- the groups of a word, with those that a double colon stands for
abbrev pub groups_of : List ℕ → Option (List ℕ)
groups_of word =
    elim (around word) [
      | None ↦ parts_of Six (pieces 58 word)
      | Some sides ↦ filled (side sides.0) (side sides.1)
    ]

-- eight groups between colons, or fewer around a double colon
abbrev pub six_of : List ℕ → Option Address
six_of word = address_from Six (groups_of word)

-- the address that a word writes; no word writes one in both ways, since only IPv4 has dots
abbrev pub address_of : List ℕ → Option Address
address_of word = option_or (four_of word) (six_of word)
