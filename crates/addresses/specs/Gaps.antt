-- A text around its first double colon. Assumes nothing.
use Rattle.std.specs.Prelude.{ℕ, Bool, false, cond, ◌&&◌, List, [], ◌∷◌, drop, Some, None, Option, ◌==◌}
use Rattle.std.specs.Option.{option_map}

-- the text begins with a double colon
abbrev pub opens : List ℕ → Bool
opens [] = false
opens (a ∷ []) = false
opens (a ∷ b ∷ bs) = a == 58 && b == 58

-- what stands before the first double colon, and what stands after it
unfoldable pub around : List ℕ → Option (List ℕ × List ℕ)
around [] = None
around (a ∷ bs) = cond (opens (a ∷ bs)) (Some ([], drop 1 bs)) (option_map (λ sides. (a ∷ sides.0, sides.1)) (around bs))
