-- The bytes of a word, two by two. Assumes nothing.
use Rattle.std.proofs.Common.{◌≡◌, ℕ, zero, suc, ◌+◌, ◌*◌, ◌<◌, List, [], get_or, drop, ap, ◌∙◌, arith}
use Rattle.std.proofs.lemmas.List.{get_or-take, get_or-drop}
use Rattle.std.specs.Simd.{first_chunks}

at_chunk : (word : List ℕ) (n k j : ℕ) → k < n → j < 2 → get_or (get_or (first_chunks 2 n word) k []) j 0 ≡ get_or word (2 * k + j) 0
at_chunk word zero k j inside two = absurd (omega arith)
at_chunk word (suc n) zero j inside two =
    let same : j ≡ 2 * 0 + j = omega arith in
    get_or-take 2 word j 0 two ∙ ap (λ i. get_or word i 0) same
at_chunk word (suc n) (suc k) j inside two =
    let moved : 2 + (2 * k + j) ≡ 2 * suc k + j = omega arith in
    at_chunk (drop 2 word) n k j (omega arith) two ∙ get_or-drop 2 word (2 * k + j) 0 ∙ ap (λ i. get_or word i 0) moved

pub high : (word : List ℕ) (n k : ℕ) → k < n → get_or (get_or (first_chunks 2 n word) k []) 0 0 ≡ get_or word (2 * k) 0
high word n k inside =
    let same : 2 * k + 0 ≡ 2 * k = omega arith in
    at_chunk word n k 0 inside (omega arith) ∙ ap (λ i. get_or word i 0) same

pub low : (word : List ℕ) (n k : ℕ) → k < n → get_or (get_or (first_chunks 2 n word) k []) 1 0 ≡ get_or word (2 * k + 1) 0
low word n k inside = at_chunk word n k 1 inside (omega arith)
