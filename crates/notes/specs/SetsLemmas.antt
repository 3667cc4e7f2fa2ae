-- Sets read back, and what contains a set has its numbers. Assumes nothing.
use Rattle.std.specs.Prelude.{◌≡◌, ℕ, zero, suc, ◌-◌, ◌/◌, ◌%◌, ◌^◌, ◌<◌, ◌≤◌, true, bit_and, nat_lt, refl}
use Rattle.std.proofs.Common.{sym, ap, ◌∙◌, arith, eq-eqb, eqb-true, lt-ltb, ltb-true}
use Rattle.std.proofs.lemmas.Nat.{and_shr, and_mod, mod_below}
use Rattle.bits.specs.Digits.{digits}
use Rattle.bits.specs.Codec.{Lawful}
use Rattle.bits.proofs.Codecs.{lawful_field}
use Rattle.notes.specs.Sets.{member, contains, filled, set_lawful, set_reads}
use Rattle.texts.proofs.Bools.{both_true, and_true}
use Rattle.notes.specs.ReadingsLemmas.{lawful_guard, lawful_iff}

pub lawful_set : (w : ℕ) → w ≤ 128 → Lawful (λ s. set_lawful w s ≡ true) (digits w) (set_reads w)
lawful_set w h =
    lawful_iff (λ s e. let b = both_true (nat_lt s (2 ^ w)) (filled s) e in (ltb-true s (2 ^ w) b.0, b.1))
    (λ s k. and_true (nat_lt s (2 ^ w)) (filled s) (lt-ltb s (2 ^ w) k.0) k.1)
    (lawful_guard filled 4 (lawful_field w h))

and_bit : (s t k : ℕ) → bit_and s t / 2 ^ k % 2 ≡ bit_and (s / 2 ^ k % 2) (t / 2 ^ k % 2)
and_bit s t k = ap (λ n. n % 2) (and_shr s t k) ∙ and_mod (s / 2 ^ k) (t / 2 ^ k) 1

bit_one : (a b : ℕ) → a < 2 → b ≡ 1 → bit_and a b ≡ 1 → a ≡ 1
bit_one zero b h e f = let z : ◌≡◌ {A = ℕ} 0 1 = f in absurd (omega arith)
bit_one (suc zero) b h e f = refl
bit_one (suc (suc a)) b h e f = absurd (omega arith)

-- what is in a set is in each set that contains it
pub contains_member : (w s t v : ℕ) → contains s t ≡ true → member w t v ≡ true → member w s v ≡ true
contains_member w s t v c m =
    let k = w - 1 - v in
    let one : t / 2 ^ k % 2 ≡ 1 = eqb-true _ 1 m in
    let both : bit_and (s / 2 ^ k % 2) (t / 2 ^ k % 2) ≡ 1 = sym (and_bit s t k) ∙ ap (λ n. n / 2 ^ k % 2) (eqb-true _ t c) ∙ one in
    eq-eqb _ 1 (bit_one (s / 2 ^ k % 2) (t / 2 ^ k % 2) (mod_below (s / 2 ^ k) 2 (omega arith)) one both)
