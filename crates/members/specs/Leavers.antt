-- The leavers layer. Assumes nothing.
use Rattle.std.specs.Prelude.{◌≡◌, ℕ, ◌<◌, ◌≤◌, Bool, true, false, cond, not, ◌&&◌, List, length, is_ok, is_some, Some, None, Ok, Err, count_by, Option, Result, ◌==◌, slice_index_or, slice_set}
use Rattle.std.specs.List.{list_any}
use Rattle.members.specs.declared.full.LayerFull.{LayerFull}
use Rattle.members.specs.declared.leaver_table.Leaver.{Leaver}
use Rattle.members.specs.declared.row_text.RowText.{RowText}
use Rattle.members.specs.Pairs.{Pairs, Alike, without_identity}
use Rattle.members.specs.Rows.{row_text_of, row_text_is}
use Rattle.texts.specs.Same.{same}

-- an entry in which nothing is noted
abbrev pub no_leaver : Leaver
no_leaver = record { identity = None }

-- the entry of a noted identity
abbrev pub leaver_of : List ℕ → Leaver
leaver_of i = record { identity = Some (row_text_of i) }

-- an identity is noted in the entry
abbrev pub taken : Leaver → Bool
taken x = is_some x.identity

-- a row is there, and it has the text
abbrev pub holds_text : List ℕ → Option RowText → Bool
holds_text i None = false
holds_text i (Some x) = row_text_is i x

-- this identity is noted in the entry
abbrev pub is_leaver : List ℕ → Leaver → Bool
is_leaver i x = holds_text i x.identity

-- this identity is noted in some entry
abbrev pub noted : List Leaver → List ℕ → Bool
noted xs i = list_any (is_leaver i) xs

-- no identity is noted twice
abbrev pub OnceEach : List Leaver → Type 0
OnceEach xs = (i : List ℕ) → count_by (is_leaver i) xs ≤ 1

-- the meaning of the layer: the pairs below without those of the noted identities
abbrev pub without_noted : List Leaver → Pairs → Pairs
without_noted xs below i s = below i s && not (noted xs i)

-- ys is xs with a free entry given to the identity
abbrev pub Entered : List ℕ → List Leaver → List Leaver → Type 0
Entered i xs ys = (k : ℕ) × (k < length xs) × (taken (slice_index_or xs k no_leaver) ≡ false) × (ys ≡ slice_set xs k (leaver_of i))

-- ys is xs with the identity's entry cleared
abbrev pub Cleared : List ℕ → List Leaver → List Leaver → Type 0
Cleared i xs ys = (k : ℕ) × (k < length xs) × (is_leaver i (slice_index_or xs k no_leaver) ≡ true) × (ys ≡ slice_set xs k no_leaver)

-- an identity is noted in a layer that has noted it or not, and is full or not
abbrev pub NotedWhere : Bool → Bool → List ℕ → List Leaver → Result (Unit {0}) LayerFull → List Leaver → Type 0
NotedWhere true full i xs r ys = (is_ok r ≡ true) × (ys ≡ xs)
NotedWhere false true i xs r ys = (is_ok r ≡ false) × (ys ≡ xs)
NotedWhere false false i xs r ys = (is_ok r ≡ true) × Entered i xs ys

-- what noting an identity answers, and the entries later
abbrev pub Noted : List ℕ → List Leaver → Result (Unit {0}) LayerFull → List Leaver → Type 0
Noted i xs r ys = NotedWhere (noted xs i) (count_by taken xs == 16) i xs r ys

-- an identity is readmitted to a layer that has noted it or not
abbrev pub ReadmittedWhere : Bool → List ℕ → List Leaver → List Leaver → Type 0
ReadmittedWhere true i xs ys = Cleared i xs ys
ReadmittedWhere false i xs ys = ys ≡ xs

-- the entries after an identity is readmitted
abbrev pub Readmitted : List ℕ → List Leaver → List Leaver → Type 0
Readmitted i xs ys = ReadmittedWhere (noted xs i) i xs ys

-- the meaning after noting: where it is accepted the identity's pairs are out, and nothing else changes
abbrev pub Lost : List ℕ → Pairs → Result (Unit {0}) LayerFull → Pairs → Type 0
Lost identity before (Ok _) later = Alike later (without_identity identity before)
Lost identity before (Err _) later = Alike later before

-- the meaning after readmitting: the identity's pairs are those below, and nothing else changes
abbrev pub Regained : List ℕ → Pairs → Pairs → Pairs → Type 0
Regained identity below before later = (i s : List ℕ) → later i s ≡ cond (same i identity) (below i s) (before i s)
