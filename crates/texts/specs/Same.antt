-- Equal texts. Assumes nothing.
use Rattle.std.specs.Prelude.{ℕ, Bool, true, false, ◌&&◌, List, [], ◌∷◌, ◌==◌}

-- the same bytes in the same order
unfoldable pub same : List ℕ → List ℕ → Bool
same [] [] = true
same [] (b ∷ u) = false
same (a ∷ t) [] = false
same (a ∷ t) (b ∷ u) = a == b && same t u
