-- Presented pairs. Assumes nothing.
use Rattle.std.proofs.Common.{◌≡◌, ℕ, ◌≤◌, Bool, true, false, ◌&&◌, ◌||◌, List, [], ◌∷◌, ◌++◌, length, refl, ap, ◌∙◌}
use Rattle.std.proofs.lemmas.Bool.{and_parts}
use Rattle.std.proofs.lemmas.List.Folds.{list_any-append}
use Rattle.members.specs.Pairs.{Pairs}
use Rattle.members.specs.Rows.{row_of, row_is, listed}
use Rattle.texts.specs.Same.{same}
use Rattle.members.specs.Tokens.{with_presented}
use Rattle.members.specs.declared.flat_roll.MemberRow.{MemberRow}
use Rattle.members.proofs.RowLaws.{row_holds}
use Rattle.texts.proofs.Sames.{same_is}

or_swap : (a b d : Bool) → ((a || (b || false)) || d) ≡ ((a || d) || b)
or_swap true b d = refl
or_swap false true true = refl
or_swap false true false = refl
or_swap false false true = refl
or_swap false false false = refl

or_known : (a b d : Bool) → (d ≡ true → a ≡ true) → (a || b) ≡ ((a || b) || d)
or_known true b d h = refl
or_known false true d h = refl
or_known false false true h = h refl
or_known false false false h = refl

module _ (held : List MemberRow) (below : Pairs) (identity standing : List ℕ) where
  pub gains_nothing : listed held identity standing ≡ true → (i s : List ℕ) → with_presented held below i s ≡ (with_presented held below i s || (same i identity && same s standing))
  gains_nothing there i s =
      or_known (listed held i s) (below i s) (same i identity && same s standing) λ e.
      let parts = and_parts (same i identity) (same s standing) e in
      (λ k. listed held ((same_is i identity).0 parts.0 k) ((same_is s standing).0 parts.1 k)) ∙ there

  pub gains_one :
      length identity ≤ 40 → length standing ≤ 40 → (i s : List ℕ)
      → with_presented (held ++ (row_of identity standing ∷ [])) below i s ≡ (with_presented held below i s || (same i identity && same s standing))
  gains_one hi hs i s =
      ap (λ b. b || below i s) (list_any-append (row_is i s) held (row_of identity standing ∷ []) ∙ ap (λ b. listed held i s || (b || false)) (row_holds i s identity standing hi hs))
      ∙ or_swap (listed held i s) (same i identity && same s standing) (below i s)
