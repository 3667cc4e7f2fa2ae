-- What identities are, in the words of the grammar. Assumes nothing.
use Rattle.std.specs.Prelude.{◌≡◌, ℕ, ◌<◌, ◌≤◌, ◌≢◌, ◌⊎◌, List, ◌++◌, length, codes, Decides}
use Rattle.std.specs.List.{AllByRecursion}
use Rattle.texts.specs.Texts.{identity}

-- 0x21 to 0x7E without '/' and '*'
abbrev pub Plain : ℕ → Type 0
Plain b = (0x21 ≤ b) × (b ≤ 0x7E) × (b ≢ 0x2F) × (b ≢ 0x2A)

-- one or more such bytes
abbrev pub Segment : List ℕ → Type 0
Segment s = (0 < length s) × AllByRecursion Plain s

-- '//' and two segments, with '/' between them
abbrev pub TwoSegments : List ℕ → Type 0
TwoSegments t = (a : List ℕ) × (b : List ℕ) × Segment a × Segment b × (t ≡ codes "//" ++ a ++ codes "/" ++ b)

-- '//' and three segments, with '/' between each two
abbrev pub ThreeSegments : List ℕ → Type 0
ThreeSegments t =
    (a : List ℕ) × (b : List ℕ) × (c : List ℕ) × Segment a × Segment b × Segment c × (t ≡ codes "//" ++ a ++ codes "/" ++ b ++ codes "/" ++ c)

-- a text is an identity exactly when it is one of the two and has at most 40 bytes
abbrev pub IdentityGrammar : Type 0
IdentityGrammar = (t : List ℕ) → Decides (identity t) ((TwoSegments t ⊎ ThreeSegments t) × (length t ≤ 40))
