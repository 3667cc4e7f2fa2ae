-- Readings that belong to their forms: a field and a text. Assumes nothing.
use Rattle.std.proofs.Common.{◌≡◌, ℕ, zero, suc, ◌+◌, ◌*◌, ◌/◌, ◌%◌, ◌^◌, ◌<◌, ◌≤◌, Bool, true, false, cond, ◌&&◌, leb, List, [], ◌∷◌, ◌++◌, length, get_or, take, drop, Ok, Err, sym, refl, ap, ◌∙◌, subst, append_assoc, mod-eq_of_lt, arith, length-append, length-drop, take-append-drop, length-take-le, take_at, take-add, drop_at, le-leb}
use borrow.Author.Tests.{lt-leb, true-leb}
use Rattle.std.specs.Int.Digits.{number_from_digits, AllBelowBase}
use Rattle.std.proofs.lemmas.Int.Digits.{number_lt}
use Rattle.std.proofs.ByRecursion.{All-take, All-drop}
use Rattle.bits.specs.Digits.{digits, bits}
use Rattle.bits.specs.Faults.{ended}
use Rattle.bits.specs.Codec.{field, bytes_of, text, Bytes, Lawful}
use Rattle.bits.proofs.DigitLaws.{length_digits, under_digits, under_bits, number_digits, digits_number, length_bits, bits_append, bits_drop}

-- what a test lets through
pub ok_only : {X E : Type 0} (t : Bool) (x y : X) (z : E) → cond t (Ok x) (Err z) ≡ Ok y → (t ≡ true) × (x ≡ y)
ok_only true x y z e = (refl, cc)
ok_only false x y z e = let clash : ◌≡◌ {A = ℕ} 0 1 = cc in absurd (omega arith)

both_true : (a b : Bool) → (a && b) ≡ true → (a ≡ true) × (b ≡ true)
both_true true b e = (refl, e)
both_true false b e = let clash : ◌≡◌ {A = ℕ} 0 1 = cc in absurd (omega arith)

pub field_ok : (w : ℕ) (ds : List ℕ) (p : ℕ) → w ≤ 128 → p + w ≤ length ds → field w ds p ≡ Ok (number_from_digits 2 (take w (drop p ds)), p + w)
field_ok w ds p few h = λ i. cond (le-leb w 128 few i && le-leb (p + w) (length ds) h i) (Ok (number_from_digits 2 (take w (drop p ds)), p + w)) (Err (ended p))

cond_second : {X : Type 0} (a b : Bool) (x y : X) → b ≡ false → cond (a && b) x y ≡ y
cond_second true b x y e = ap (λ t. cond t x y) e
cond_second false b x y e = refl

pub field_short : (w : ℕ) (ds : List ℕ) (p : ℕ) → length ds < p + w → field w ds p ≡ Err (ended p)
field_short w ds p h = cond_second (leb w 128) (leb (p + w) (length ds)) (Ok (number_from_digits 2 (take w (drop p ds)), p + w)) (Err (ended p)) (lt-leb (p + w) (length ds) h)

pub field_wide : (w : ℕ) (ds : List ℕ) (p : ℕ) → 128 < w → field w ds p ≡ Err (ended p)
field_wide w ds p h = ap (λ t. cond (t && leb (p + w) (length ds)) (Ok (number_from_digits 2 (take w (drop p ds)), p + w)) (Err (ended p))) (lt-leb w 128 h)

pub lawful_field : (w : ℕ) → w ≤ 128 → Lawful (λ v. v < 2 ^ w) (digits w) (field w)
lawful_field w few = record {
  binary = λ v _. under_digits w v;
  back = λ v small a b.
      let l : length (digits w v) ≡ w = length_digits w v in
      let all = a ++ (digits w v ++ b) in
      let long : length a + w ≤ length all = simp (length-append) (omega arith) in
      let front : take w (drop (length a) all) ≡ digits w v = ap (take w) (drop_at a (digits w v ++ b) _ refl) ∙ take_at (digits w v) b w l in
      let num : number_from_digits 2 (digits w v) ≡ v = number_digits w v ∙ mod-eq_of_lt small in
      field_ok w all (length a) few long ∙ (λ i. Ok ((ap (number_from_digits 2) front ∙ num) i, length a + sym l i));
  forth = λ ds u p v q e.
      let h = ok_only (leb w 128 && leb (p + w) (length ds)) (number_from_digits 2 (take w (drop p ds)), p + w) (v, q) (ended p) e in
      let part = take w (drop p ds) in
      let inside : p + w ≤ length ds = true-leb (p + w) (length ds) (sym (both_true (leb w 128) (leb (p + w) (length ds)) h.0).1) in
      let long : length part ≡ w = length-take-le w (drop p ds) (simp length-drop (omega arith)) in
      let num : number_from_digits 2 part ≡ v = ap (λ x. x.0) h.1 in
      let under : AllBelowBase 2 part = All-take _ w _ (All-drop _ p _ u) in
      let same : digits w v ≡ part = (λ i. digits (sym long i) (sym num i)) ∙ digits_number 0 part under in (
        subst (λ n. n < 2 ^ w) num (subst (λ n. number_from_digits 2 part < 2 ^ n) long (number_lt 2 part under)),
        sym (ap (λ x. x.1) h.1) ∙ ap (λ n. p + n) (sym (length_digits w v)),
        ap (λ n. take n (drop p ds)) (length_digits w v) ∙ sym same,
      );
}

pub bytes_of_bits : (t b : List ℕ) → Bytes t → bytes_of (length t) (bits t ++ b) ≡ t
unfolding bits
bytes_of_bits [] b h = refl
bytes_of_bits (x ∷ t) b h =
    let l : length (digits 8 x) ≡ 8 = length_digits 8 x in
    let assoc : (digits 8 x ++ bits t) ++ b ≡ digits 8 x ++ (bits t ++ b) = append_assoc (digits 8 x) (bits t) b in
    let head : number_from_digits 2 (take 8 ((digits 8 x ++ bits t) ++ b)) ≡ x =
    ap (λ s. number_from_digits 2 (take 8 s)) assoc ∙ ap (number_from_digits 2) (take_at (digits 8 x) (bits t ++ b) 8 l) ∙ number_digits 8 x ∙ mod-eq_of_lt h.0 in
    let tail : drop 8 ((digits 8 x ++ bits t) ++ b) ≡ bits t ++ b = ap (drop 8) assoc ∙ drop_at (digits 8 x) (bits t ++ b) 8 l in
    (λ i. head i ∷ (ap (bytes_of (length t)) tail ∙ bytes_of_bits t b h.1) i)

pub length_bytes_of : (n : ℕ) (ds : List ℕ) → length (bytes_of n ds) ≡ n
length_bytes_of zero ds = refl
length_bytes_of (suc n) ds = ap suc (length_bytes_of n (drop 8 ds))

pub small_bytes_of : (n : ℕ) (ds : List ℕ) → AllBelowBase 2 ds → 8 * n ≤ length ds → Bytes (bytes_of n ds)
small_bytes_of zero ds u h = tt
small_bytes_of (suc n) ds u h =
    let l : length (take 8 ds) ≡ 8 = length-take-le 8 ds (omega arith) in
    (subst (λ k. number_from_digits 2 (take 8 ds) < 2 ^ k) l (number_lt 2 (take 8 ds) (All-take _ 8 ds u)), small_bytes_of n (drop 8 ds) (All-drop _ 8 ds u) (simp length-drop (omega arith)))

pub bits_bytes_of : (n : ℕ) (ds : List ℕ) → AllBelowBase 2 ds → 8 * n ≤ length ds → bits (bytes_of n ds) ≡ take (8 * n) ds
unfolding bits
bits_bytes_of zero ds u h = refl
bits_bytes_of (suc n) ds u h =
    let l : length (take 8 ds) ≡ 8 = length-take-le 8 ds (omega arith) in
    let head : digits 8 (number_from_digits 2 (take 8 ds)) ≡ take 8 ds = ap (λ k. digits k (number_from_digits 2 (take 8 ds))) (sym l) ∙ digits_number 0 (take 8 ds) (All-take _ 8 ds u) in
    let tail = bits_bytes_of n (drop 8 ds) (All-drop _ 8 ds u) (simp length-drop (omega arith)) in
    let e : 8 + 8 * n ≡ 8 * suc n = omega arith in
    (λ i. head i ++ tail i) ∙ sym (take-add 8 (8 * n) ds) ∙ ap (λ k. take k ds) e

pub lawful_text : (n : ℕ) → Lawful (λ t. (length t ≡ n) × Bytes t) bits (text n)
unfolding text
lawful_text n = record {
  binary = λ t _. under_bits t;
  back = λ t h a b.
      let all = a ++ (bits t ++ b) in
      let w : length (bits t) ≡ 8 * n = length_bits t ∙ ap (λ k. 8 * k) h.0 in
      let long : length a + 8 * n ≤ length all = simp length-append (omega arith) in
      let rest : drop (length a) all ≡ bits t ++ b = drop_at a (bits t ++ b) _ refl in
      let same : bytes_of n (drop (length a) all) ≡ t = ap (bytes_of n) rest ∙ ap (λ k. bytes_of k (bits t ++ b)) (sym h.0) ∙ bytes_of_bits t b h.1 in
      ap (λ c. cond c (Ok (bytes_of n (drop (length a) all), length a + 8 * n)) (Err (ended (length a)))) (le-leb _ _ long) ∙ (λ i. Ok (same i, length a + sym w i));
  forth = λ ds u p t q e.
      let h = ok_only (leb (p + 8 * n) (length ds)) (bytes_of n (drop p ds), p + 8 * n) (t, q) (ended p) e in
      let inside : p + 8 * n ≤ length ds = true-leb _ _ (sym h.0) in
      let rest : 8 * n ≤ length (drop p ds) = simp length-drop (omega arith) in
      let same : bytes_of n (drop p ds) ≡ t = ap (λ z. z.0) h.1 in
      let w : length (bits t) ≡ 8 * n = length_bits t ∙ ap (λ k. 8 * k) (ap length (sym same) ∙ length_bytes_of n (drop p ds)) in (
        (ap length (sym same) ∙ length_bytes_of n (drop p ds), subst Bytes same (small_bytes_of n (drop p ds) (All-drop _ p ds u) rest)),
        sym (ap (λ z. z.1) h.1) ∙ ap (λ k. p + k) (sym w),
        ap (λ k. take k (drop p ds)) w ∙ sym (bits_bytes_of n (drop p ds) (All-drop _ p ds u) rest) ∙ ap bits same,
      );
}

text_part : (bs : List ℕ) (k n : ℕ) → k + n ≤ length bs → Bytes bs → bytes_of n (drop (8 * k) (bits bs)) ≡ take n (drop k bs)
text_part bs k n h small =
    let part = take n (drop k bs) in
    let l : length part ≡ n = length-take-le n (drop k bs) (simp length-drop (omega arith)) in
    let cut : bits (drop k bs) ≡ bits part ++ bits (drop n (drop k bs)) = ap bits (sym (take-append-drop n (drop k bs))) ∙ bits_append part (drop n (drop k bs)) in
    ap (bytes_of n) (bits_drop k bs (omega arith) ∙ cut) ∙ ap (λ m. bytes_of m (bits part ++ bits (drop n (drop k bs)))) (sym l)
    ∙ bytes_of_bits part _ (All-take _ n (drop k bs) (All-drop _ k bs small))

pub bytes_from : (bs : List ℕ) → ((i : ℕ) → get_or bs i 0 < 256) → Bytes bs
bytes_from [] h = tt
bytes_from (b ∷ bs) h = (h 0, bytes_from bs (λ i. h (suc i)))

-- a text from a whole byte on is a part of the bytes
pub text_ok : (bs : List ℕ) (p n : ℕ) → p % 8 ≡ 0 → p / 8 + n ≤ length bs → ((i : ℕ) → get_or bs i 0 < 256) → text n (bits bs) p ≡ Ok (take n (drop (p / 8) bs), p + 8 * n)
unfolding text
text_ok bs p n whole h small =
    let e : p ≡ 8 * (p / 8) = omega arith in
    let long : p + 8 * n ≤ length (bits bs) = rw (length_bits bs) (omega arith) in
    let same : bytes_of n (drop p (bits bs)) ≡ take n (drop (p / 8) bs) = ap (λ k. bytes_of n (drop k (bits bs))) e ∙ text_part bs (p / 8) n h (bytes_from bs small) in
    ap (λ c. cond c (Ok (bytes_of n (drop p (bits bs)), p + 8 * n)) (Err (ended p))) (le-leb _ _ long) ∙ (λ i. Ok (same i, p + 8 * n))

pub text_short : (bs : List ℕ) (p n : ℕ) → 8 * length bs < p + 8 * n → text n (bits bs) p ≡ Err (ended p)
unfolding text
text_short bs p n h =
    let short : length (bits bs) < p + 8 * n = rw (length_bits bs) h in
    ap (λ c. cond c (Ok (bytes_of n (drop p (bits bs)), p + 8 * n)) (Err (ended p))) (lt-leb _ _ short)
