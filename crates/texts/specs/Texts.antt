-- The texts that rules name: identities, domains, standings and patterns. A text is a row of bytes;
-- '/' is 47 and '*' is 42. Assumes nothing.
use Rattle.std.specs.Prelude.{ℕ, Bool, true, false, cond, not, ◌&&◌, ◌||◌, List, [], ◌∷◌, ◌++◌, length, ◌==◌, nat_le}
use Rattle.std.specs.List.{list_all}
use Rattle.texts.specs.Lists.{none}
use Rattle.texts.specs.Pieces.{pieces}

-- 0x21 to 0x7E
abbrev pub visible : ℕ → Bool
visible b = nat_le 0x21 b && nat_le b 0x7E

-- a byte of a segment: visible, neither '/' nor '*'
abbrev pub plain : ℕ → Bool
plain b = visible b && not (b == 47) && not (b == 42)

-- a byte of a pattern's segment, where '*' may stand
abbrev pub starred : ℕ → Bool
starred b = visible b && not (b == 47)

-- a byte of a standing, where '/' may stand
abbrev pub slashed : ℕ → Bool
slashed b = visible b && not (b == 42)

-- one or more bytes, each of which is allowed
unfoldable pub segment : (ℕ → Bool) → List ℕ → Bool
segment ok s = not (none s) && list_all ok s

-- low to high segments, joined by single slashes
unfoldable pub path : (ℕ → Bool) → ℕ → ℕ → List ℕ → Bool
path ok low high t = nat_le low (length (pieces 47 t)) && nat_le (length (pieces 47 t)) high && list_all (segment ok) (pieces 47 t)

-- a slash, and behind it a text for which the test holds
abbrev pub slash_then : (List ℕ → Bool) → List ℕ → Bool
slash_then test [] = false
slash_then test (b ∷ t) = b == 47 && test t

-- at most n bytes, which are allowed
abbrev pub lawful_text : ℕ → (List ℕ → Bool) → List ℕ → Bool
lawful_text n allowed t = nat_le (length t) n && allowed t

-- '//' and two or three segments, at most 40 bytes
abbrev pub identity : List ℕ → Bool
identity t = nat_le (length t) 40 && slash_then (slash_then (path plain 2 3)) t

-- a segment of at most 24 bytes
abbrev pub domain : List ℕ → Bool
domain t = nat_le (length t) 24 && segment plain t

-- 1 to 40 bytes without '*'
abbrev pub standing : List ℕ → Bool
standing t = nat_le (length t) 40 && segment slashed t

-- '//' and two or three segments, or '/' and one or two, at most 40 bytes; a segment may have '*'
abbrev pub pattern : List ℕ → Bool
pattern t = nat_le (length t) 40 && (slash_then (slash_then (path starred 2 3)) t || slash_then (path starred 1 2) t)

-- the full form: a pattern that begins with '//' is its own, and any other has '//' and the home domain in front
abbrev pub full : List ℕ → List ℕ → List ℕ
full home t = cond (slash_then (slash_then (λ _. true)) t) t (47 ∷ 47 ∷ (home ++ t))
