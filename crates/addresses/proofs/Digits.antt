-- A piece read digit by digit. Assumes nothing.
use Rattle.std.proofs.Common.{◌≡◌, ℕ, ◌+◌, ◌*◌, ◌^◌, ◌<◌, ◌≤◌, false, ◌&&◌, ltb, leb, List, [], ◌∷◌, length, Some, None, sym, ap, ◌∙◌, mul-le-mul_left, pow-suc, add-one, arith}
use Rattle.std.specs.List.{list_all}
use native.Mathlib.Nat.{pow-le-pow_right}
use Rattle.std.specs.Str.Parse.{digits_value, digits_value_after}
use Rattle.std.specs.Char.{digit_value}
use Rattle.std.proofs.lemmas.Bool.{lt-ltb, le-ltb, le-leb, lt-leb, and_from, and_right, and_left, cond-true, cond-false}
use Rattle.addresses.specs.Numerals.{digit, numeral, numeral_of}

-- what is left of the piece, after i digits that write n, decides what the piece writes
pub record Sofar (base : ℕ) (piece rest : List ℕ) (n i : ℕ) : Type 0 where
  pub writes : digits_value_after base n rest ≡ digits_value base piece
  pub digits : list_all (digit base) rest ≡ list_all (digit base) piece
  pub small : n < 16 ^ i

pub next_small : (base n i d : ℕ) → base ≤ 16 → n < 16 ^ i → d < base → n * base + d < 16 ^ (i + 1)
next_small base n i d few small under =
    let e : 16 ^ (i + 1) ≡ 16 ^ i * 16 = rw (add-one, pow-suc) in
    omega (arith, mul-le-mul_left n few, e)

pub next_fits : (base n i d : ℕ) → base ≤ 16 → n < 16 ^ i → d < base → i < 4 → n * base + d < 65536
next_fits base n i d few small under inside =
    let most : i + 1 ≤ 4 = omega arith in
    let top : 16 ^ (i + 1) ≤ 16 ^ 4 = pow-le-pow_right (omega arith) most in
    omega (arith, next_small base n i d few small under, top)

pub small_fits : (n i : ℕ) → n < 16 ^ i → i ≤ 4 → n < 65536
small_fits n i small few =
    let top : 16 ^ i ≤ 16 ^ 4 = pow-le-pow_right (omega arith) few in
    omega (arith, top)

pub more : (base : ℕ) (piece : List ℕ) (b : ℕ) (rest : List ℕ) (n i : ℕ) → Sofar base piece (b ∷ rest) n i → base ≤ 16 → digit_value b < base → Sofar base piece rest (n * base + digit_value b) (i + 1)
more base piece b rest n i s few under =
    record {
      writes = s.writes;
      digits = sym (ap (λ t. t && list_all (digit base) rest) (lt-ltb (digit_value b) base under)) ∙ s.digits;
      small = next_small base n i (digit_value b) few s.small under;
    }

-- a piece that is empty or too long, or has another byte than a digit, writes no number
pub none_empty : (base most : ℕ) (piece : List ℕ) → length piece ≤ 0 → None ≡ numeral_of base most piece
unfolding numeral_of
none_empty base most piece h =
    sym (cond-false (numeral base most piece) _ _ (and_left _ _ (le-ltb 0 (length piece) h)))

pub none_long : (base most : ℕ) (piece : List ℕ) → most < length piece → None ≡ numeral_of base most piece
unfolding numeral_of
none_long base most piece h =
    sym (cond-false (numeral base most piece) _ _ (and_right _ _ (and_left _ _ (lt-leb (length piece) most h))))

pub none_other : (base most : ℕ) (piece : List ℕ) (b : ℕ) (rest : List ℕ) (n i : ℕ) → Sofar base piece (b ∷ rest) n i → (digit_value b < base → ⊥) → None ≡ numeral_of base most piece
unfolding numeral_of
none_other base most piece b rest n i s other =
    let no : ltb (digit_value b) base ≡ false = le-ltb (digit_value b) base (omega (arith, other)) in
    let some-other : list_all (digit base) piece ≡ false = sym s.digits ∙ and_left (ltb (digit_value b) base) (list_all (digit base) rest) no in
    let short-other = and_right (leb (length piece) most) (list_all (digit base) piece) some-other in
    sym (cond-false (numeral base most piece) _ _ (and_right (ltb 0 (length piece)) _ short-other))

pub all_read : (base most : ℕ) (piece : List ℕ) (n i : ℕ) → Sofar base piece [] n i → 0 < length piece → length piece ≤ most → Some n ≡ numeral_of base most piece
unfolding numeral_of
all_read base most piece n i s some short =
    ap Some s.writes
    ∙ sym (cond-true (numeral base most piece) _ _ (and_from _ _ (lt-ltb 0 (length piece) some) (and_from _ _ (le-leb (length piece) most short) (sym s.digits))))
