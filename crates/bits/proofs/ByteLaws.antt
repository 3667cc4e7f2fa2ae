-- Runs of bits inside one byte of a row. Assumes nothing.
use Rattle.std.proofs.Common.{◌≡◌, ℕ, suc, ◌+◌, ◌-◌, ◌*◌, ◌/◌, ◌%◌, ◌^◌, ◌<◌, ◌≤◌, List, ◌∷◌, ◌++◌, length, get_or, take, drop, set, sym, refl, ap, ◌∙◌, subst, append_assoc, lt_of_lt_of_le, mod-eq_of_lt, add_comm, mul-le-mul_left, arith, length-append, length-drop, length-take, length-take-le, drop-cons, drop-drop, take_at, take-add, drop_at, pow_pos, pow_mono, pow-add, shr-shr, shr_lt}
use native.Mathlib.Nat.{mod-mod}
use lib.Pow.{high, low}
use lib.Seq.{set_split, split_at}
use Rattle.std.specs.Int.Digits.{number_from_digits}
use Rattle.std.proofs.lemmas.Nat.{mod_below, mul-add-lt, one_shl}
use Rattle.std.proofs.lemmas.Int.Digits.{number_lt}
use Rattle.std.proofs.ByRecursion.{All-take, All-drop}
use Rattle.bits.specs.Digits.{digits, bits, laid, run, replaced}
use Rattle.bits.proofs.DigitLaws.{length_digits, digits_add, digits_mod, length_bits, under_bits, bits_append, bits_drop, number_append, number_digits}
use Rattle.bits.proofs.Laying.{laid_laid, laid_inside}

-- a byte by its front, a run and the rest
byte_cut : (b used n rest : ℕ) → used + n + rest ≡ 8 → digits 8 b ≡ digits used (b / 2 ^ (n + rest)) ++ (digits n (b / 2 ^ rest) ++ digits rest b)
byte_cut b used n rest whole =
    let e : 8 ≡ used + (n + rest) = omega arith in
    ap (λ k. digits k b) e ∙ digits_add used (n + rest) b ∙ ap (λ l. digits used (b / 2 ^ (n + rest)) ++ l) (digits_add n rest b)

-- the bits from the byte k on
bits_from : (bs : List ℕ) (k : ℕ) → k < length bs → drop (8 * k) (bits bs) ≡ digits 8 (get_or bs k 0) ++ bits (drop (suc k) bs)
unfolding bits
bits_from bs k h = bits_drop k bs (omega arith) ∙ ap bits (drop-cons bs k 0 h)

-- what a run of bits inside the byte k spells
pub number_run : (bs : List ℕ) (k used n p : ℕ) → k < length bs → used + n ≤ 8 → 8 * k + used ≡ p
    → number_from_digits 2 (take n (drop p (bits bs))) ≡ run (get_or bs k 0) used n
number_run bs k used n p h inside at =
    let b = get_or bs k 0 in
    let rest = 8 - used - n in
    let front = digits used (b / 2 ^ (n + rest)) in
    let middle = digits n (b / 2 ^ rest) in
    let behind = digits rest b ++ bits (drop (suc k) bs) in
    let cut : drop (8 * k) (bits bs) ≡ front ++ (middle ++ behind) =
    bits_from bs k h ∙ ap (λ l. l ++ bits (drop (suc k) bs)) (byte_cut b used n rest (omega arith)) ∙ simp append_assoc in
    let after : drop p (bits bs) ≡ middle ++ behind =
    ap (λ m. drop m (bits bs)) (sym at) ∙ sym (drop-drop used (8 * k) (bits bs)) ∙ ap (drop used) cut ∙ drop_at front (middle ++ behind) used (length_digits used _) in
    ap (λ l. number_from_digits 2 (take n l)) after ∙ ap (number_from_digits 2) (take_at middle behind n (length_digits n _)) ∙ number_digits n (b / 2 ^ rest)

-- a field that is read so far, and one run more
pub number_more : (bs : List ℕ) (start i n v c : ℕ) → start + i + n ≤ 8 * length bs → v ≡ number_from_digits 2 (take i (drop start (bits bs)))
    → number_from_digits 2 (take n (drop (start + i) (bits bs))) ≡ c → v * 2 ^ n + c ≡ number_from_digits 2 (take (i + n) (drop start (bits bs)))
number_more bs start i n v c inside e f =
    let ds = drop start (bits bs) in
    let next : take n (drop i ds) ≡ take n (drop (start + i) (bits bs)) = ap (take n) (drop-drop i start (bits bs)) in
    let long : length (take n (drop i ds)) ≡ n = length-take-le n (drop i ds) (simp (length-drop, length_bits) (omega arith)) in
    sym (ap (number_from_digits 2) (take-add i n ds) ∙ number_append (take i ds) (take n (drop i ds))
    ∙ (λ j. sym e j * 2 ^ long j + (ap (number_from_digits 2) next ∙ f) j))

-- a field of i bits is below 2 ^ i
pub number_below : (bs : List ℕ) (start i : ℕ) → number_from_digits 2 (take i (drop start (bits bs))) < 2 ^ i
number_below bs start i =
    let ds = take i (drop start (bits bs)) in
    let short : length ds ≤ i = simp length-take (omega arith) in
    lt_of_lt_of_le (number_lt 2 ds (All-take _ i _ (All-drop _ start _ (under_bits bs)))) (pow_mono short)

-- a byte with a run replaced
module _ (b used n v : ℕ) (inside : used + n ≤ 8) (small : v < 2 ^ n) where
  rest_below : b % 2 ^ (8 - used - n) < 2 ^ (8 - used - n)
  rest_below = mod_below b (2 ^ (8 - used - n)) (pow_pos (8 - used - n))

  front_high : replaced b used n v / 2 ^ (8 - used - n) ≡ b / 2 ^ (8 - used) * 2 ^ n + v
  front_high = high (b / 2 ^ (8 - used) * 2 ^ n + v) (8 - used - n) rest_below

  pub digits_replaced : digits 8 (replaced b used n v) ≡ laid (digits 8 b) used (digits n v)
  unfolding laid
  digits_replaced =
      let rest = 8 - used - n in
      let x = replaced b used n v in
      let h = b / 2 ^ (8 - used) in
      let whole : used + n + rest ≡ 8 = omega arith in
      let cut = byte_cut b used n rest whole in
      let above : n + rest ≡ 8 - used = omega arith in
      let front : digits used (x / 2 ^ (n + rest)) ≡ digits used (b / 2 ^ (n + rest)) =
      ap (digits used) (ap (λ k. x / 2 ^ k) (add_comm n rest) ∙ sym (shr-shr x rest n) ∙ ap (λ k. k / 2 ^ n) front_high ∙ high h n small ∙ ap (λ k. b / 2 ^ k) (sym above)) in
      let middle : digits n (x / 2 ^ rest) ≡ digits n v = ap (digits n) front_high ∙ digits_mod n (h * 2 ^ n + v) v (low h n small ∙ sym (mod-eq_of_lt small)) in
      let tail : digits rest x ≡ digits rest b = digits_mod rest x b (low (h * 2 ^ n + v) rest rest_below) in
      let long : length (digits used (b / 2 ^ (n + rest))) ≡ used = length_digits used _ in
      let kept : take used (digits 8 b) ≡ digits used (b / 2 ^ (n + rest)) = ap (take used) cut ∙ take_at _ _ used long in
      let over : length (digits used (b / 2 ^ (n + rest)) ++ digits n (b / 2 ^ rest)) ≡ used + length (digits n v) =
      simp (length-append, length_digits) refl in
      let past : drop (used + length (digits n v)) (digits 8 b) ≡ digits rest b =
      ap (drop (used + length (digits n v))) (cut ∙ sym (append_assoc (digits used (b / 2 ^ (n + rest))) (digits n (b / 2 ^ rest)) (digits rest b))) ∙ drop_at _ _ _ over in
      byte_cut x used n rest whole ∙ (λ i. (front ∙ sym kept) i ++ (middle i ++ (tail ∙ sym past) i))

  pub replaced_below : b < 256 → replaced b used n v < 256
  replaced_below byte =
      let rest = 8 - used - n in
      let all : rest + (used + n) ≡ 8 = omega arith in
      let whole : 2 ^ rest * 2 ^ (used + n) ≡ 256 = sym (pow-add 2 rest (used + n)) ∙ ap (λ k. 2 ^ k) all in
      let split : 2 ^ n * 2 ^ used ≡ 2 ^ (used + n) = sym (pow-add 2 n used) ∙ ap (λ k. 2 ^ k) (add_comm n used) in
      let eight : 8 ≡ used + (8 - used) = omega arith in
      let at : 256 ≡ 2 ^ (used + (8 - used)) = ap (λ k. 2 ^ k) eight in
      let top : b / 2 ^ (8 - used) < 2 ^ used = shr_lt used (8 - used) (subst (λ k. b < k) at byte) in
      let upper : b / 2 ^ (8 - used) * 2 ^ n + v < 2 ^ (used + n) = subst (λ k. b / 2 ^ (8 - used) * 2 ^ n + v < k) split (mul-add-lt _ (2 ^ n) v (2 ^ used) top small) in
      subst (λ k. replaced b used n v < k) whole (mul-add-lt _ (2 ^ rest) _ (2 ^ (used + n)) upper rest_below)

  -- the same by shifts of 16 bits, which lose nothing
  pub shifts : b < 256 → (b / 2 ^ (8 - used) * 2 ^ n % 65536 + v) * 2 ^ (8 - used - n) % 65536 + b % (1 * 2 ^ (8 - used - n) % 65536) ≡ replaced b used n v
  shifts byte =
      let rest = 8 - used - n in
      let h = b / 2 ^ (8 - used) in
      let one : 1 ≤ 2 ^ rest = pow_pos rest in
      let all = replaced_below byte in
      let upper : (h * 2 ^ n + v) * 2 ^ rest < 65536 = omega arith in
      let top : h * 2 ^ n + v < 65536 = omega (arith, mul-le-mul_left (h * 2 ^ n + v) one) in
      let first : h * 2 ^ n % 65536 ≡ h * 2 ^ n = mod-eq_of_lt (omega arith) in
      let unit : 1 * 2 ^ rest % 65536 ≡ 2 ^ rest = one_shl rest 16 (omega arith) in
      (λ i. (first i + v) * 2 ^ rest % 65536 + b % unit i) ∙ ap (λ k. k + b % 2 ^ rest) (mod-eq_of_lt upper)

-- a run of bits replaced inside the byte k of a row
pub bits_replaced : (bs : List ℕ) (k used n v p : ℕ) → k < length bs → used + n ≤ 8 → v < 2 ^ n → 8 * k + used ≡ p
    → bits (set bs k (replaced (get_or bs k 0) used n v)) ≡ laid (bits bs) p (digits n v)
unfolding bits
bits_replaced bs k used n v p h inside small at =
    let b = get_or bs k 0 in
    let front = take k bs in
    let behind = drop (suc k) bs in
    let cut : bits bs ≡ bits front ++ (digits 8 b ++ bits behind) = ap bits (split_at bs k 0 h) ∙ bits_append front (b ∷ behind) in
    let long : length (bits front) ≡ 8 * k = length_bits front ∙ ap (λ m. 8 * m) (length-take-le k bs (omega arith)) in
    let few : used + length (digits n v) ≤ length (digits 8 b) = simp length_digits inside in
    ap bits (set_split bs k _ h) ∙ bits_append front _ ∙ ap (λ l. bits front ++ (l ++ bits behind)) (digits_replaced b used n v inside small)
    ∙ sym (laid_inside (bits front) (digits 8 b) (bits behind) (digits n v) used few)
    ∙ (λ i. laid (sym cut i) ((ap (λ m. m + used) long ∙ at) i) (digits n v))

-- the first digits of v are laid, and now the n that follow
pub laid_more : (d : List ℕ) (start i left n v : ℕ) → start ≤ length d → n ≤ left
    → laid (laid d start (digits i (v / 2 ^ left))) (start + i) (digits n (v / 2 ^ (left - n) % 2 ^ n)) ≡ laid d start (digits (i + n) (v / 2 ^ (left - n)))
laid_more d start i left n v inside few =
    let u = v / 2 ^ (left - n) in
    let first : length (digits i (v / 2 ^ left)) ≡ i = length_digits i _ in
    let next : digits n (u % 2 ^ n) ≡ digits n u = digits_mod n _ u (mod-mod u (2 ^ n)) in
    let back : left - n + n ≡ left = omega arith in
    let front : digits i (v / 2 ^ left) ≡ digits i (u / 2 ^ n) = ap (digits i) (sym (shr-shr v (left - n) n ∙ ap (λ k. v / 2 ^ k) back)) in
    (λ j. laid (laid d start (digits i (v / 2 ^ left))) (start + sym first j) (next j))
    ∙ laid_laid d start (digits i (v / 2 ^ left)) (digits n u) inside
    ∙ ap (laid d start) (ap (λ l. l ++ digits n u) front ∙ sym (digits_add i n u))
