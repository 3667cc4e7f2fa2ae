-- How many elements pass a test. Assumes nothing.
use Rattle.std.proofs.Common.{◌≡◌, ℕ, ◌+◌, ◌<◌, ◌≤◌, Bool, true, false, cond, not, ◌&&◌, ◌||◌, ltb, List, [], ◌∷◌, length, get_or, Some, None, set, count_by, sym, refl, ap, ◌∙◌, arith}
use Rattle.std.proofs.lemmas.List.Folds.{list_any_none, list_any_at}
use Rattle.std.proofs.lemmas.List.Sums.{sum_by-cons, sum_by-set, length-filter, fails_before_first}
use Rattle.std.proofs.lemmas.List.Filters.{length-filter_both}
use Rattle.std.specs.List.{list_any, position, position_or_len}
use Rattle.std.proofs.lemmas.Bool.{lt-ltb, le-ltb, ltb-true, ltb-false}

-- a count that rises where the test holds
pub ltb_rises : (a later : ℕ) (b : Bool) → later ≡ a + cond b 1 0 → ltb 0 later ≡ (b || ltb 0 a)
ltb_rises a later true e = lt-ltb 0 later (omega arith)
ltb_rises a later false e = ap (ltb 0) (omega arith)

pub ltb_falls : (a later : ℕ) (b : Bool) → later + cond b 1 0 ≡ a → a ≤ 1 → ltb 0 later ≡ (not b && ltb 0 a)
ltb_falls a later true e h = le-ltb 0 later (omega arith)
ltb_falls a later false e h = ap (ltb 0) (omega arith)

pub any_counted : {X : Type 0} (p : X → Bool) (xs : List X) → list_any p xs ≡ ltb 0 (count_by p xs)
any_counted p [] = refl
any_counted p (x ∷ xs) =
    let e : count_by p (x ∷ xs) ≡ count_by p xs + cond (p x) 1 0 = omega (arith, sum_by-cons (λ y. cond (p y) 1 0) x xs) in
    ap (λ b. p x || b) (any_counted p xs) ∙ sym (ltb_rises (count_by p xs) (count_by p (x ∷ xs)) (p x) e)

pub count_set :
    {X : Type 0} (p : X → Bool) (xs : List X) (k : ℕ) (y d : X) → k < length xs
    → count_by p (set xs k y) + cond (p (get_or xs k d)) 1 0 ≡ count_by p xs + cond (p y) 1 0
count_set p xs k y d h = sum_by-set (λ x. cond (p x) 1 0) xs k y d h

-- where no place is found, no element passes the test
pub no_place : {X : Type 0} (p : X → Bool) (xs : List X) → position p xs ≡ None → list_any p xs ≡ false
no_place p xs e = list_any_none p xs (λ k d h. fails_before_first p xs k d (at (ltb n (length xs)) refl e h))
  where
    n : ℕ
    n = position_or_len p xs

    at : (b : Bool) → ltb n (length xs) ≡ b → cond b (Some n) None ≡ None → {k : ℕ} → k < length xs → k < n
    at true t e h = let z : ⊥ = cc in absurd z
    at false t e h = omega (arith, ltb-false n (length xs) t)

-- the elements that pass a test and those that fail it are all
pub count_both : {X : Type 0} (p : X → Bool) (xs : List X) → count_by p xs + count_by (λ x. not (p x)) xs ≡ length xs
count_both p xs = omega (arith, length-filter p xs, length-filter (λ x. not (p x)) xs, length-filter_both p (λ x. not (p x)) (λ x. refl) xs)

-- where no failing element is found, all pass the test
pub all_pass : {X : Type 0} (p : X → Bool) (xs : List X) → position (λ x. not (p x)) xs ≡ None → count_by p xs ≡ length xs
all_pass p xs e =
    let none = ltb-false 0 _ (sym (any_counted (λ x. not (p x)) xs) ∙ no_place (λ x. not (p x)) xs e) in
    omega (arith, count_both p xs, none)

-- where a failing element is found, not all pass the test
pub one_fails : {X : Type 0} (p : X → Bool) (xs : List X) (k : ℕ) (d : X) → k < length xs → not (p (get_or xs k d)) ≡ true → count_by p xs < length xs
one_fails p xs k d h e =
    let some = ltb-true 0 _ (sym (any_counted (λ x. not (p x)) xs) ∙ list_any_at (λ x. not (p x)) xs k d h e) in
    omega (arith, count_both p xs, some)
