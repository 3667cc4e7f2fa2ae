-- Rows that hold texts. Assumes nothing.
use Rattle.std.proofs.Common.{◌≡◌, ℕ, ◌-◌, ◌≤◌, true, ◌&&◌, leb, List, length, take, replicate, sym, refl, leb-true}
use Rattle.std.proofs.lemmas.List.{take_at}
use Rattle.std.proofs.lemmas.Bool.{le-leb, and_parts}
use Rattle.texts.specs.TextValues.{text_of}
use Rattle.texts.specs.declared.text.Text.{Text}
use Rattle.texts.specs.Same.{same}
use Rattle.members.specs.Rows.{row_text_of, row_text_is, row_of, row_is}
use Rattle.members.specs.declared.row_text.RowText.{RowText}
use Rattle.texts.proofs.Sames.{same_is}

pub row_text_holds : (j t : List ℕ) → length t ≤ 40 → row_text_is j (row_text_of t) ≡ same j t
unfolding row_text_of
row_text_holds j t h =
    λ k. le-leb (length t) 40 h k && same j (take_at t (replicate (40 - length t) 0) (length t) refl k)

pub row_holds : (i s i₀ s₀ : List ℕ) → length i₀ ≤ 40 → length s₀ ≤ 40 → row_is i s (row_of i₀ s₀) ≡ (same i i₀ && same s s₀)
row_holds i s i₀ s₀ hi hs = λ k. row_text_holds i i₀ hi k && row_text_holds s s₀ hs k

-- a row holds one text
pub row_text_only : (i j : List ℕ) (x : RowText) → row_text_is i x ≡ true → row_text_is j x ≡ same j i
row_text_only i j x e =
    let parts = and_parts (leb x.len 40) (same i (take x.len x.bytes)) e in
    λ k. parts.0 k && same j (sym ((same_is i (take x.len x.bytes)).0 parts.1) k)

-- a text of at most 40 bytes fits into a row
pub text_short : {G : Type 0} {g : _} (x : Text G 40 g) → length (text_of x) ≤ 40
text_short x = leb-true _ 40 (and_parts (leb (length (text_of x)) 40) _ x.lawful).0
