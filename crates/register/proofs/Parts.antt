-- The used part of a table. Assumes nothing.
use Rattle.std.proofs.Common.{◌≡◌, ℕ, ◌<◌, ◌≤◌, min, List, length, take, drop, sym, ap, ◌∙◌, ⊎_elim, arith}
use Rattle.std.proofs.lemmas.List.{take_all, drop_all}
use Rattle.std.proofs.lemmas.Bool.{cases_lt}

module _ {X : Type 0} (n : ℕ) (xs : List X) where
  pub take_min : take (min n (length xs)) xs ≡ take n xs
  take_min =
      ⊎_elim (λ (h : n < length xs). ap (λ m. take m xs) (omega arith))
      (λ (h : length xs ≤ n). take_all (min n (length xs)) xs (omega arith) ∙ sym (take_all n xs h))
      (cases_lt n (length xs))

  pub drop_min : drop (min n (length xs)) xs ≡ drop n xs
  drop_min =
      ⊎_elim (λ (h : n < length xs). ap (λ m. drop m xs) (omega arith))
      (λ (h : length xs ≤ n). drop_all (min n (length xs)) xs (omega arith) ∙ sym (drop_all n xs h))
      (cases_lt n (length xs))
