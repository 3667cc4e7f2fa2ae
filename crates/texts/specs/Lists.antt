-- Tests over lists. Assumes nothing.
use Rattle.std.specs.Prelude.{Bool, true, false, List, [], ◌∷◌}

abbrev pub none : {X : Type 0} → List X → Bool
none [] = true
none (x ∷ xs) = false
