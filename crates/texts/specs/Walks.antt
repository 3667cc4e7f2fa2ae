-- How far a match has come. Assumes nothing.
use Rattle.std.specs.Prelude.{◌≡◌, ℕ, ◌+◌, ◌*◌, ◌<◌, Bool, false, ◌||◌, ◌≢◌, ◌⊎◌, List, [], ◌∷◌, ◌++◌, length, max}
use Rattle.std.specs.declared.ops.ControlFlow.{ControlFlow}
use Rattle.std.specs.declared.ops.ControlFlow.TheVariants.{Continue, Break}
use Rattle.std.specs.List.{AllByRecursion}
use Rattle.texts.specs.Matching.{further, matches}
use Rattle.texts.specs.declared.matching.walk.Star.{Star}
use Rattle.texts.specs.declared.matching.walk.Walk.{Walk}

-- bytes that are neither '*' nor '/'
abbrev pub Literal : List ℕ → Type 0
Literal bs = AllByRecursion (λ b. (b ≢ 42) × (b ≢ 47)) bs

-- whether the match succeeds when the last star stands for more bytes
abbrev pub longer : Star → Bool
longer s = further (matches s.pattern.now) s.text.now

-- whether the match succeeds from here
abbrev pub succeeds : Walk → Bool
succeeds w = matches w.pattern.now w.text.now || longer w.star

-- the star can stand for nothing more, or since it the same literal bytes were passed in the pattern and in the text
abbrev pub Passed : List ℕ → List ℕ → Star → Type 0
Passed p t s = (s.text.now ≡ []) ⊎ ((bs : List ℕ) × Literal bs × (s.pattern.now ≡ bs ++ p) × (s.text.now ≡ bs ++ t))

abbrev pub Sound : Walk → Type 0
Sound w = Passed w.pattern.now w.text.now w.star

-- at most so many tries of the text for each byte of the pattern, from here or from the star
abbrev pub tries : List ℕ → List ℕ → Star → ℕ
tries p t s = max (length t * (1 + length p)) (length s.text.now * (1 + length s.pattern.now))

-- at most so many steps are left
abbrev pub steps_left : Walk → ℕ
steps_left w = tries w.pattern.now w.text.now w.star + length w.pattern.now

-- a step goes on with the same outcome, or answers
abbrev pub Stepped : Walk → ControlFlow Bool Walk → Type 0
Stepped w (Continue v) = Sound v × (succeeds v ≡ succeeds w) × (steps_left v < steps_left w)
Stepped w (Break b) = b ≡ succeeds w

-- the text goes on with a byte other than '/', and the star takes it; or there is none
abbrev pub Lengthened : Star → ControlFlow Bool Walk → Type 0
Lengthened s (Continue v) =
    (c : ℕ) × (s.text.now ≡ c ∷ v.text.now) × (c ≢ 47)
    × (v.pattern.now ≡ s.pattern.now) × (v.star ≡ record { pattern = v.pattern; text = v.text })
Lengthened s (Break b) = (b ≡ false) × ((s.text.now ≡ []) ⊎ ((c : ℕ) × (u : List ℕ) × (s.text.now ≡ c ∷ u) × (c ≡ 47)))
