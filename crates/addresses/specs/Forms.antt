-- How the addresses of a family are written. Assumes nothing.
use Rattle.std.specs.Prelude.{ℕ, List, Option}
use Rattle.notes.specs.declared.family.Family.{Family}
use Rattle.notes.specs.declared.family.Family.TheVariants.{Four, Six}
use Rattle.addresses.specs.Numerals.{numeral_of, octet_of}

-- the byte between two parts: a dot or a colon
abbrev pub separator : Family → ℕ
separator Four = 46
separator Six = 58

-- the number of parts
abbrev pub size : Family → ℕ
size Four = 4
size Six = 8

-- the number of values that a part can have
abbrev pub base : Family → ℕ
base Four = 256
base Six = 65536

-- the part that a piece writes: a decimal number, or a group of one to four hexadecimal digits
abbrev pub part_of : Family → List ℕ → Option ℕ
part_of Four piece = octet_of piece
part_of Six piece = numeral_of 16 4 piece
