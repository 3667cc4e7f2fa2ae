-- The laws of `digits`, of `bits` and of the number that digits spell. Assumes nothing.
use Rattle.std.proofs.Common.{◌≡◌, ℕ, zero, suc, ◌+◌, ◌*◌, ◌/◌, ◌%◌, ◌^◌, ◌<◌, ◌≤◌, List, [], ◌∷◌, ◌++◌, length, get_or, take, drop, sym, refl, ap, ◌∙◌, append_assoc, append-nil, add_assoc, mul_assoc, add-mul, add_comm, suc-add, zero-add, zero-mul, one-add, arith, length-append, length-take-le, drop-drop, drop_at, pow-add, shr-shr}
use lib.Pow.{high, mod-pow-add, field, mod-mod-pow}
use Rattle.std.specs.Int.Digits.{number_from_digits, number_from_digits_after, AllBelowBase}
use Rattle.std.proofs.lemmas.Int.Digits.{number_lt, number_after_append}
use Rattle.std.proofs.lemmas.Nat.{mod_below}
use Rattle.std.proofs.lemmas.List.{take_more}
use Rattle.bits.specs.Digits.{digits, bits}

pub length_digits : (w v : ℕ) → length (digits w v) ≡ w
unfolding digits
length_digits zero v = refl
length_digits (suc w) v = ap suc (length_digits w v)

pub under_digits : (w v : ℕ) → AllBelowBase 2 (digits w v)
unfolding digits
under_digits zero v = tt
under_digits (suc w) v = (mod_below (v / 2 ^ w) 2 (omega arith), under_digits w v)

-- the first digits are those of the number above the last ones
pub digits_add : (m n v : ℕ) → digits (m + n) v ≡ digits m (v / 2 ^ n) ++ digits n v
unfolding digits
digits_add zero n v = ap (λ k. digits k v) (zero-add n)
digits_add (suc m) n v =
    let head : v / 2 ^ (m + n) % 2 ≡ v / 2 ^ n / 2 ^ m % 2 = ap (λ k. k % 2) (ap (λ k. v / 2 ^ k) (add_comm m n) ∙ sym (shr-shr v n m)) in
    ap (λ k. digits k v) (suc-add m n) ∙ (λ i. head i ∷ digits_add m n v i)

-- digits depend on the remainder alone
pub digits_mod : (w v u : ℕ) → v % 2 ^ w ≡ u % 2 ^ w → digits w v ≡ digits w u
unfolding digits
digits_mod zero v u e = refl
digits_mod (suc w) v u e =
    let split_off : (n : ℕ) → n % 2 ^ suc w / 2 ^ w ≡ n / 2 ^ w % 2 = λ n. rw (sym (one-add w)) (field n 1 w) in
    let rest : (n : ℕ) → n % 2 ^ suc w % 2 ^ w ≡ n % 2 ^ w = λ n. rw (sym (one-add w)) (mod-mod-pow n 1 w) in
    let head : v / 2 ^ w % 2 ≡ u / 2 ^ w % 2 = sym (split_off v) ∙ ap (λ n. n / 2 ^ w) e ∙ split_off u in
    let tail : v % 2 ^ w ≡ u % 2 ^ w = sym (rest v) ∙ ap (λ n. n % 2 ^ w) e ∙ rest u in
    (λ i. head i ∷ digits_mod w v u tail i)

pub length_bits : (bs : List ℕ) → length (bits bs) ≡ 8 * length bs
unfolding bits digits
length_bits [] = refl
length_bits (b ∷ bs) = length-append (digits 8 b) (bits bs) ∙ omega (arith, length_bits bs, length_digits 8 b)

pub under_bits : (bs : List ℕ) → AllBelowBase 2 (bits bs)
unfolding bits digits
under_bits [] = tt
under_bits (b ∷ bs) = search (under_digits 8 b, under_bits bs)

pub bits_append : (xs ys : List ℕ) → bits (xs ++ ys) ≡ bits xs ++ bits ys
unfolding bits
bits_append [] ys = refl
bits_append (x ∷ xs) ys = ap (λ l. digits 8 x ++ l) (bits_append xs ys) ∙ sym (append_assoc (digits 8 x) (bits xs) (bits ys))

pub bits_drop : (k : ℕ) (bs : List ℕ) → k ≤ length bs → drop (8 * k) (bits bs) ≡ bits (drop k bs)
unfolding bits
bits_drop zero bs h = refl
bits_drop (suc k) [] h = absurd (omega arith)
bits_drop (suc k) (b ∷ bs) h =
    let e : 8 * suc k ≡ 8 + 8 * k = omega arith in
    ap (λ m. drop m (digits 8 b ++ bits bs)) e ∙ sym (drop-drop (8 * k) 8 (digits 8 b ++ bits bs)) ∙ ap (drop (8 * k)) (drop_at (digits 8 b) (bits bs) 8 (length_digits 8 b)) ∙ bits_drop k bs (omega arith)

after_digits : (w n v : ℕ) → number_from_digits_after 2 n (digits w v) ≡ n * 2 ^ w + v % 2 ^ w
unfolding digits
after_digits zero n v = let z : v % 1 ≡ 0 = omega arith in rw z (omega arith)
after_digits (suc w) n v =
    let m : v % 2 ^ suc w ≡ (v / 2 ^ w % 2) * 2 ^ w + v % 2 ^ w = rw (sym (one-add w)) (mod-pow-add v 1 w) in
    let p : 2 ^ suc w ≡ 2 * 2 ^ w = rw (sym (one-add w)) (pow-add 2 1 w) in
    after_digits w (n * 2 + v / 2 ^ w % 2) v
    ∙ rw (m, p) (simp (add-mul, mul_assoc) (add_assoc _ _ _))

pub number_digits : (w v : ℕ) → number_from_digits 2 (digits w v) ≡ v % 2 ^ w
number_digits w v = after_digits w 0 v ∙ rw zero-mul (zero-add _)

after_split : (n : ℕ) (ds : List ℕ) → number_from_digits_after 2 n ds ≡ n * 2 ^ length ds + number_from_digits 2 ds
after_split n [] = omega arith
after_split n (d ∷ ds) =
    let p : 2 ^ suc (length ds) ≡ 2 * 2 ^ length ds = rw (sym (one-add (length ds))) (pow-add 2 1 (length ds)) in
    let here = after_split (n * 2 + d) ds in
    let there = after_split (0 * 2 + d) ds in
    here ∙ rw (p, there) (simp (add-mul, mul_assoc, zero-mul, zero-add) (add_assoc _ _ _))

pub number_append : (xs ys : List ℕ) → number_from_digits 2 (xs ++ ys) ≡ number_from_digits 2 xs * 2 ^ length ys + number_from_digits 2 ys
number_append xs ys = number_after_append 2 0 xs ys ∙ after_split (number_from_digits 2 xs) ys

pub digits_number : (n : ℕ) (ds : List ℕ) → AllBelowBase 2 ds → digits (length ds) (number_from_digits_after 2 n ds) ≡ ds
unfolding digits
digits_number n [] u = refl
digits_number n (d ∷ ds) u =
    let m = n * 2 + d in
    let bit : number_from_digits_after 2 m ds / 2 ^ length ds ≡ m = rw (after_split m ds) (high m (length ds) (number_lt 2 ds u.1)) in
    let head : number_from_digits_after 2 m ds / 2 ^ length ds % 2 ≡ d = rw bit (omega (arith, u.0)) in
    (λ i. head i ∷ digits_number m ds u.1 i)

-- the bits of the first bytes, and of one byte more
pub bits_more : (bs : List ℕ) (i : ℕ) → i < length bs → bits (take (i + 1) bs) ≡ bits (take i bs) ++ digits 8 (get_or bs i 0)
unfolding bits
bits_more bs i h = ap bits (take_more bs i 0 h) ∙ bits_append (take i bs) (get_or bs i 0 ∷ []) ∙ ap (λ l. bits (take i bs) ++ l) (append-nil (digits 8 (get_or bs i 0)))

pub length_bits_take : (bs : List ℕ) (i : ℕ) → i ≤ length bs → length (bits (take i bs)) ≡ 8 * i
length_bits_take bs i h = length_bits (take i bs) ∙ ap (λ k. 8 * k) (length-take-le i bs h)
