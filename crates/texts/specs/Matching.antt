-- When a pattern matches a text. '/' is 47 and '*' is 42. Assumes nothing.
use Rattle.std.specs.Prelude.{◌≡◌, ℕ, Bool, true, false, cond, not, ◌&&◌, ◌||◌, ◌≢◌, List, [], ◌∷◌, ◌++◌, Decides, ◌==◌}
use Rattle.std.specs.List.{AllByRecursion}
use Rattle.texts.specs.Lists.{none}

-- the first of the replacements, or no byte where there is none
abbrev pub first : List (List ℕ) → List ℕ
first [] = []
first (r ∷ rs) = r

abbrev pub others : List (List ℕ) → List (List ℕ)
others [] = []
others (r ∷ rs) = rs

-- the pattern with each '*' replaced, in turn, by the next of the replacements
unfoldable pub replaced : List ℕ → List (List ℕ) → List ℕ
replaced [] rs = []
replaced (b ∷ p) rs = cond (b == 42) (first rs ++ replaced p (others rs)) (b ∷ replaced p rs)

-- there are replacements without a '/' that make the pattern equal to the text
abbrev pub Matches : List ℕ → List ℕ → Type 0
Matches p t = (rs : List (List ℕ)) × AllByRecursion (AllByRecursion (λ b. b ≢ 47)) rs × (replaced p rs ≡ t)

-- the byte b, and behind it a text for which the test holds
abbrev pub next_is : ℕ → (List ℕ → Bool) → List ℕ → Bool
next_is b test [] = false
next_is b test (c ∷ t) = b == c && test t

-- the test holds behind some bytes other than '/', at least one
unfoldable pub further : (List ℕ → Bool) → List ℕ → Bool
further test [] = false
further test (c ∷ t) = not (c == 47) && (test t || further test t)

-- the same as a test: a '*' stands for no byte, or for one or more other than '/'
unfoldable pub matches : List ℕ → List ℕ → Bool
matches [] t = none t
matches (b ∷ p) t = cond (b == 42) (matches p t || further (matches p) t) (next_is b (matches p) t)

-- the text begins with p
unfoldable pub begins : List ℕ → List ℕ → Bool
begins [] t = true
begins (b ∷ p) t = next_is b (begins p) t

-- the text begins with '//', the domain and '/'
abbrev pub in_domain : List ℕ → List ℕ → Bool
in_domain d t = begins (47 ∷ 47 ∷ (d ++ (47 ∷ []))) t

-- the test says yes of exactly the texts that replacements make of the pattern
abbrev pub Replacing : Type 0
Replacing = (p t : List ℕ) → Decides (matches p t) (Matches p t)
