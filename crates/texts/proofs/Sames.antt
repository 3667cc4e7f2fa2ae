-- The test of equal texts. Assumes nothing.
use Rattle.std.proofs.Common.{◌≡◌, ℕ, List, Decides, refl}
use Rattle.std.proofs.lemmas.Slice.Eq.{compares_Decides}
use Rattle.texts.specs.Same.{same}

pub same_is : (a b : List ℕ) → Decides (same a b) (a ≡ b)
unfolding same
same_is = compares_Decides same (record { empty = refl; shorter = λ y ys. refl; longer = λ x xs. refl; heads = λ x y xs ys. refl })
