-- One row of bits laid over another. Assumes nothing.
use Rattle.std.proofs.Common.{◌≡◌, ℕ, ◌+◌, ◌≤◌, List, [], ◌++◌, length, take, drop, sym, ap, ◌∙◌, append_assoc, add-zero, add_assoc, arith, length-append, take-append-drop, length-take, drop-drop, take_at, drop_at}
use lib.Seq.{take-append-add, drop-append-add, take-append-le, drop-append-le}
use Rattle.bits.specs.Digits.{laid}

pub laid_nothing : (d : List ℕ) (at : ℕ) → laid d at [] ≡ d
unfolding laid
laid_nothing d at = ap (λ n. take at d ++ drop n d) (add-zero at) ∙ take-append-drop at d

-- one row behind another
pub laid_laid : (d : List ℕ) (at : ℕ) (s t : List ℕ) → at ≤ length d → laid (laid d at s) (at + length s) t ≡ laid d at (s ++ t)
unfolding laid
laid_laid d at s t h =
    let l : length (take at d ++ s) ≡ at + length s = simp (length-append, length-take) (omega arith) in
    let cut : take at d ++ (s ++ drop (at + length s) d) ≡ (take at d ++ s) ++ drop (at + length s) d = simp append_assoc in
    let front : take (at + length s) (laid d at s) ≡ take at d ++ s = ap (take (at + length s)) cut ∙ take_at _ _ _ l in
    let rest : drop (at + length s) (laid d at s) ≡ drop (at + length s) d = ap (drop (at + length s)) cut ∙ drop_at _ _ _ l in
    let past : drop (at + length s + length t) (laid d at s) ≡ drop (at + length (s ++ t)) d =
    sym (drop-drop (length t) (at + length s) (laid d at s)) ∙ ap (drop (length t)) rest ∙ drop-drop (length t) (at + length s) d
    ∙ ap (λ n. drop n d) (simp length-append (add_assoc _ _ _)) in
    (λ i. front i ++ (t ++ past i)) ∙ simp append_assoc

-- a row laid inside the middle one of three
pub laid_inside : (a b c s : List ℕ) (at : ℕ) → at + length s ≤ length b → laid (a ++ (b ++ c)) (length a + at) s ≡ a ++ (laid b at s ++ c)
unfolding laid
laid_inside a b c s at h =
    let few : at ≤ length b = omega arith in
    let front : take (length a + at) (a ++ (b ++ c)) ≡ a ++ take at b = take-append-add a (b ++ c) at ∙ ap (λ l. a ++ l) (take-append-le at b c few) in
    let back : drop (length a + at + length s) (a ++ (b ++ c)) ≡ drop (at + length s) b ++ c =
    ap (λ n. drop n (a ++ (b ++ c))) (add_assoc (length a) at (length s)) ∙ drop-append-add a (b ++ c) (at + length s) ∙ drop-append-le (at + length s) b c h in
    (λ i. front i ++ (s ++ back i)) ∙ simp append_assoc
