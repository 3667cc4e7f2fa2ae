-- What may stand behind the last field. Assumes nothing.
use Rattle.std.proofs.Common.{◌≡◌, ℕ, ◌+◌, ◌-◌, ◌*◌, ◌<◌, ◌≤◌, Bool, true, false, ◌&&◌, eqb, ltb, List, [], ◌∷◌, length, take, drop, Ok, Err, sym, refl, ap, ◌∙◌, arith, length-drop, le-ltb, lt-ltb, eq-eqb, eqb-true}
use Rattle.std.specs.List.{list_all}
use Rattle.std.specs.Int.Digits.{number_from_digits, number_from_digits_after}
use Rattle.std.proofs.lemmas.Int.Digits.{number_after_ge}
use Rattle.std.proofs.lemmas.List.{take_all}
use Rattle.bits.specs.Codec.{field}
use Rattle.bits.specs.declared.fault.Report.{Report}
use Rattle.bits.proofs.Codecs.{field_ok}
use Rattle.notes.specs.Rules.{padded}
use Rattle.texts.proofs.Bools.{both_true, and_true}

-- each of them is zero
abbrev pub zeros : List ℕ → Bool
zeros ds = list_all (λ d. eqb d 0) ds

number_zeros : (ds : List ℕ) → zeros ds ≡ true → number_from_digits 2 ds ≡ 0
number_zeros [] e = refl
number_zeros (d ∷ ds) e =
    let b = both_true (eqb d 0) (zeros ds) e in
    let first : 0 * 2 + d ≡ 0 = omega (arith, eqb-true d 0 b.0) in
    ap (λ n. number_from_digits_after 2 n ds) first ∙ number_zeros ds b.1

zeros_number : (ds : List ℕ) → number_from_digits 2 ds ≡ 0 → zeros ds ≡ true
zeros_number [] e = refl
zeros_number (d ∷ ds) e =
    let first : 0 * 2 + d ≡ 0 = omega (arith, number_after_ge 2 (0 * 2 + d) ds (omega arith)) in
    let none : d ≡ 0 = omega arith in
    and_true (eqb d 0) (zeros ds) (eq-eqb d 0 none) (zeros_number ds (sym (ap (λ n. number_from_digits_after 2 n ds) first) ∙ e))

not_both : (a : Bool) → (a ≡ true → ⊥) → a ≡ false
not_both true f = absurd (f refl)
not_both false f = refl

pub excess : (ds : List ℕ) (q : ℕ) → 8 ≤ length ds - q → padded ds q ≡ false
excess ds q h = ap (λ t. t && zeros (drop q ds)) (le-ltb (length ds - q) 8 h)

-- the bits that are left, read as one field
module _ (ds : List ℕ) (q left : ℕ) (all : q + left ≡ length ds) (few : left < 8) where
  rest_read : field left ds q ≡ Ok (number_from_digits 2 (drop q ds), q + left)
  rest_read =
      let whole : take left (drop q ds) ≡ drop q ds = take_all left (drop q ds) (simp length-drop (omega arith)) in
      field_ok left ds q (omega arith) (omega arith) ∙ (λ i. Ok (number_from_digits 2 (whole i), q + left))

  short : ltb (length ds - q) 8 ≡ true
  short = lt-ltb (length ds - q) 8 (omega arith)

  pub blank : (m : ℕ) → field left ds q ≡ Ok (0, m) → padded ds q ≡ true
  blank m e =
      let same : ◌≡◌ {A = ℕ × ℕ} (number_from_digits 2 (drop q ds), q + left) (0, m) = cc rest_read in
      and_true _ _ short (zeros_number (drop q ds) (ap (λ z. z.0) same))

  pub marked : (v m : ℕ) → (v ≡ 0 → ⊥) → field left ds q ≡ Ok (v, m) → padded ds q ≡ false
  marked v m other e =
      let same : ◌≡◌ {A = ℕ × ℕ} (number_from_digits 2 (drop q ds), q + left) (v, m) = cc rest_read in
      not_both (padded ds q) (λ t. other (sym (ap (λ z. z.0) same) ∙ number_zeros (drop q ds) (both_true (ltb (length ds - q) 8) (zeros (drop q ds)) t).1))

  pub unread : (e : Report) → field left ds q ≡ Err e → ⊥
  unread e h = let z : ◌≡◌ {A = ℕ} 0 1 = cc rest_read in omega arith
