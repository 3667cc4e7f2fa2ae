-- What member lists mean. Assumes nothing.
use Rattle.std.specs.Prelude.{◌≡◌, ℕ, Bool, true, not, ◌&&◌, ◌||◌, List}
use Rattle.texts.specs.Same.{same}

-- a set of pairs of an identity and a standing
abbrev pub Pairs : Type 0
Pairs = List ℕ → List ℕ → Bool

-- every pair of the first is a pair of the second
abbrev pub LacksNone : Pairs → Pairs → Type 0
LacksNone p q = (i s : List ℕ) → p i s ≡ true → q i s ≡ true

-- the same pairs
abbrev pub Alike : Pairs → Pairs → Type 0
Alike p q = (i s : List ℕ) → p i s ≡ q i s

-- the pairs of p, and this one
abbrev pub with_pair : List ℕ → List ℕ → Pairs → Pairs
with_pair identity standing p i s = p i s || (same i identity && same s standing)

-- the pairs of p without those of this identity
abbrev pub without_identity : List ℕ → Pairs → Pairs
without_identity identity p i s = p i s && not (same i identity)
