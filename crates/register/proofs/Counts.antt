-- Counting. Assumes nothing.
use Rattle.std.proofs.Common.{◌≡◌, ℕ, ◌+◌, ◌≤◌, Bool, true, false, cond, not, ◌&&◌, List, [], ◌∷◌, count_by, filter, sym, refl, ap, ◌∙◌, arith}
use mathlib.Core.Bool.{false≢true}
use Rattle.std.proofs.Math.Bool.{and-true, and-false}
use Rattle.std.proofs.lemmas.List.Sums.{sum_by-cons}

pub cond_mono : (a b : Bool) → (a ≡ true → b ≡ true) → cond a 1 0 ≤ cond b 1 0
cond_mono true true h = omega arith
cond_mono true false h = absurd (false≢true (h refl))
cond_mono false true h = omega arith
cond_mono false false h = omega arith

split_one : (a k : Bool) → ◌≡◌ {A = ℕ} (cond a 1 0) (cond (a && k) 1 0 + cond (a && not k) 1 0)
split_one true true = refl
split_one true false = refl
split_one false k = refl

module _ {X : Type 0} where
  pub count_cons : (f : X → Bool) (x : X) (xs : List X) → count_by f (x ∷ xs) ≡ cond (f x) 1 0 + count_by f xs
  count_cons f x xs = sum_by-cons (λ y. cond (f y) 1 0) x xs

  pub count_mono : (f g : X → Bool) (xs : List X) → ((x : X) → f x ≡ true → g x ≡ true) → count_by f xs ≤ count_by g xs
  count_mono f g [] h = omega arith
  count_mono f g (x ∷ xs) h = omega (arith, count_cons f x xs, count_cons g x xs, cond_mono (f x) (g x) (h x), count_mono f g xs h)

  -- the same number where the tests agree
  pub count_same : (f g : X → Bool) (xs : List X) → ((x : X) → f x ≡ g x) → count_by f xs ≡ count_by g xs
  count_same f g xs h = ap (λ (t : X → Bool). count_by t xs) (λ i x. h x i)

  pub count_split : (f k : X → Bool) (xs : List X) → count_by f xs ≡ count_by (λ x. f x && k x) xs + count_by (λ x. f x && not (k x)) xs
  count_split f k [] = refl
  count_split f k (x ∷ xs) = omega (arith, count_cons f x xs, count_cons (λ x. f x && k x) x xs, count_cons (λ x. f x && not (k x)) x xs, split_one (f x) (k x), count_split f k xs)

  kept_one : (f : X → Bool) (b : Bool) (x : X) (xs : List X) → count_by f (cond b (x ∷ xs) xs) ≡ cond (f x && b) 1 0 + count_by f xs
  kept_one f true x xs = count_cons f x xs ∙ ap (λ c. cond c 1 0 + count_by f xs) (sym (and-true (f x)))
  kept_one f false x xs = omega (arith, ap (λ c. cond {A = ℕ} c 1 0) (and-false (f x)))

  pub count_kept : (f k : X → Bool) (xs : List X) → count_by f (filter k xs) ≡ count_by (λ x. f x && k x) xs
  count_kept f k [] = refl
  count_kept f k (x ∷ xs) = omega (arith, kept_one f (k x) x (filter k xs), count_cons (λ x. f x && k x) x xs, count_kept f k xs)
