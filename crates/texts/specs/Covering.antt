-- When patterns and domains cover patterns, at a home domain. Assumes nothing.
use Rattle.std.specs.Prelude.{ℕ, Bool, ◌&&◌, List, length, nat_le}
use Rattle.texts.specs.Matching.{matches, in_domain}
use Rattle.texts.specs.Texts.{full}

-- a text of more than 40 bytes is no pattern
abbrev pub short : List ℕ → Bool
short q = nat_le (length q) 40

-- the full form of p matches the full form of q, in which a '*' is a byte as any other: only a '*' of p can stand for it
abbrev pub pattern_covers : List ℕ → List ℕ → List ℕ → Bool
pattern_covers home p q = short q && matches (full home p) (full home q)

-- the full form of q begins with '//', the domain and '/'
abbrev pub domain_covers : List ℕ → List ℕ → List ℕ → Bool
domain_covers home d q = short q && in_domain d (full home q)
