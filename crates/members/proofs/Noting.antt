-- Noted identities. Assumes nothing.
use Rattle.std.proofs.Common.{◌≡◌, ℕ, ◌+◌, ◌<◌, ◌≤◌, Bool, true, false, cond, not, ◌&&◌, ◌||◌, List, length, get_or, set, is_some, Some, None, count_by, Option, sym, refl, ap, ◌∙◌, arith}
use Rattle.std.proofs.lemmas.Bool.{ltb-false, false≢true}
use Rattle.members.specs.Leavers.{no_leaver, leaver_of, taken, holds_text, is_leaver, noted, OnceEach, without_noted}
use Rattle.members.specs.Pairs.{Pairs}
use Rattle.texts.specs.Same.{same}
use Rattle.members.specs.declared.leaver_table.Leaver.{Leaver}
use Rattle.members.specs.declared.row_text.RowText.{RowText}
use Rattle.members.proofs.Counts.{ltb_rises, ltb_falls, any_counted, count_set}
use Rattle.members.proofs.RowLaws.{row_text_holds, row_text_only}
use Rattle.texts.proofs.Sames.{same_is}

-- an entry holds one identity
leaver_only : (i j : List ℕ) (x : Option RowText) → holds_text i x ≡ true → holds_text j x ≡ same j i
leaver_only i j None e = absurd (false≢true e)
leaver_only i j (Some x) e = row_text_only i j x e

-- an entry that is free notes no identity
free_has_none : (j : List ℕ) (x : Option RowText) → not (is_some x) ≡ true → holds_text j x ≡ false
free_has_none j None e = refl
free_has_none j (Some x) e = absurd (false≢true e)

module _ (xs : List Leaver) (k : ℕ) (inside : k < length xs) (i : List ℕ) where
  module _ (short : length i ≤ 40) (free : not (taken (get_or xs k no_leaver)) ≡ true) where
    count_entered : (j : List ℕ) → count_by (is_leaver j) (set xs k (leaver_of i)) ≡ count_by (is_leaver j) xs + cond (same j i) 1 0
    count_entered j =
        let zero : ◌≡◌ {A = ℕ} (cond (is_leaver j (get_or xs k no_leaver)) 1 0) 0 = rw (free_has_none j (get_or xs k no_leaver).identity free) in
        let one : ◌≡◌ {A = ℕ} (cond (is_leaver j (leaver_of i)) 1 0) (cond (same j i) 1 0) = ap (λ b. cond b 1 0) (row_text_holds j i short) in
        omega (arith, zero, one, count_set (is_leaver j) xs k (leaver_of i) no_leaver inside)

    noted_entered : (j : List ℕ) → noted (set xs k (leaver_of i)) j ≡ (same j i || noted xs j)
    noted_entered j =
        any_counted (is_leaver j) (set xs k (leaver_of i)) ∙ ltb_rises _ _ (same j i) (count_entered j)
        ∙ ap (λ b. same j i || b) (sym (any_counted (is_leaver j) xs))

    pub once_entered : noted xs i ≡ false → OnceEach xs → OnceEach (set xs k (leaver_of i))
    once_entered new once j = at (same j i) refl
      where
        at : (b : Bool) → same j i ≡ b → count_by (is_leaver j) (set xs k (leaver_of i)) ≤ 1
        at true e =
            let none = ltb-false 0 (count_by (is_leaver j) xs) (sym (any_counted (is_leaver j) xs) ∙ ap (noted xs) ((same_is j i).0 e) ∙ new) in
            let one : ◌≡◌ {A = ℕ} (cond (same j i) 1 0) 1 = rw e in
            omega (arith, none, one, count_entered j)
        at false e =
            let zero : ◌≡◌ {A = ℕ} (cond (same j i) 1 0) 0 = rw e in
            omega (arith, once j, zero, count_entered j)

    pub lost_entered : (below : Pairs) (j s : List ℕ) → without_noted (set xs k (leaver_of i)) below j s ≡ (without_noted xs below j s && not (same j i))
    lost_entered below j s = ap (λ b. below j s && not b) (noted_entered j) ∙ law (below j s) (noted xs j) (same j i)
      where
        law : (a n b : Bool) → (a && not (b || n)) ≡ ((a && not n) && not b)
        law true true true = refl
        law true true false = refl
        law true false true = refl
        law true false false = refl
        law false n b = refl

  module _ (there : is_leaver i (get_or xs k no_leaver) ≡ true) (once : OnceEach xs) where
    count_cleared : (j : List ℕ) → count_by (is_leaver j) (set xs k no_leaver) + cond (same j i) 1 0 ≡ count_by (is_leaver j) xs
    count_cleared j =
        let one : ◌≡◌ {A = ℕ} (cond (is_leaver j (get_or xs k no_leaver)) 1 0) (cond (same j i) 1 0) = ap (λ b. cond b 1 0) (leaver_only i j (get_or xs k no_leaver).identity there) in
        omega (arith, one, count_set (is_leaver j) xs k no_leaver no_leaver inside)

    noted_cleared : (j : List ℕ) → noted (set xs k no_leaver) j ≡ (not (same j i) && noted xs j)
    noted_cleared j =
        any_counted (is_leaver j) (set xs k no_leaver) ∙ ltb_falls _ _ (same j i) (count_cleared j) (once j)
        ∙ ap (λ b. not (same j i) && b) (sym (any_counted (is_leaver j) xs))

    pub once_cleared : OnceEach (set xs k no_leaver)
    once_cleared j = omega (arith, once j, count_cleared j)

    pub regained_cleared : (below : Pairs) (j s : List ℕ) → without_noted (set xs k no_leaver) below j s ≡ cond (same j i) (below j s) (without_noted xs below j s)
    regained_cleared below j s = ap (λ b. below j s && not b) (noted_cleared j) ∙ law (below j s) (noted xs j) (same j i)
      where
        law : (a n b : Bool) → (a && not (not b && n)) ≡ cond b a (a && not n)
        law true n true = refl
        law true n false = refl
        law false n true = refl
        law false n false = refl

-- nothing changes where the identity is noted already, or is not noted
module _ (xs : List Leaver) (below : Pairs) (i : List ℕ) where
  pub lost_known : noted xs i ≡ true → (j s : List ℕ) → without_noted xs below j s ≡ (without_noted xs below j s && not (same j i))
  lost_known there j s = law (below j s) (noted xs j) (same j i) (λ e. ap (noted xs) ((same_is j i).0 e) ∙ there)
    where
      law : (a n b : Bool) → (b ≡ true → n ≡ true) → (a && not n) ≡ ((a && not n) && not b)
      law true true b h = refl
      law true false true h = sym (h refl)
      law true false false h = refl
      law false n b h = refl

  pub regained_known : noted xs i ≡ false → (j s : List ℕ) → without_noted xs below j s ≡ cond (same j i) (below j s) (without_noted xs below j s)
  regained_known away j s = law (below j s) (noted xs j) (same j i) (λ e. ap (noted xs) ((same_is j i).0 e) ∙ away)
    where
      law : (a n b : Bool) → (b ≡ true → n ≡ false) → (a && not n) ≡ cond b a (a && not n)
      law true n true h = ap not (h refl)
      law false n true h = refl
      law a n false h = refl
