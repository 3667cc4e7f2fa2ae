-- Rows of member tables. Assumes nothing.
use Rattle.std.specs.Prelude.{ℕ, ◌-◌, Bool, ◌&&◌, List, ◌++◌, length, take, replicate, nat_le}
use Rattle.std.specs.List.{list_any}
use Rattle.members.specs.Pairs.{Pairs}
use Rattle.texts.specs.Same.{same}
use Rattle.members.specs.declared.row_text.RowText.{RowText}
use Rattle.members.specs.declared.flat_roll.MemberRow.{MemberRow}

-- the row that holds a text of at most 40 bytes: zeros stand behind it
unfoldable pub row_text_of : List ℕ → RowText
row_text_of t = record { bytes = t ++ replicate (40 - length t) 0; len = length t }

-- the row holds this text; a length above 40 counts for nothing
abbrev pub row_text_is : List ℕ → RowText → Bool
row_text_is t x = nat_le x.len 40 && same t (take x.len x.bytes)

-- the row of a pair
abbrev pub row_of : List ℕ → List ℕ → MemberRow
row_of i s = record { identity = row_text_of i; standing = row_text_of s }

-- the row has this identity and this standing
abbrev pub row_is : List ℕ → List ℕ → MemberRow → Bool
row_is i s x = row_text_is i x.identity && row_text_is s x.standing

-- a table means the pairs that stand in its rows
abbrev pub listed : List MemberRow → Pairs
listed xs i s = list_any (row_is i s) xs
