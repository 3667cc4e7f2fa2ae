-- Countries read back. Assumes nothing.
use Rattle.std.specs.Prelude.{◌≡◌, ℕ, ◌^◌, ◌<◌, true, length, refl}
use Rattle.std.proofs.Common.{◌∙◌, arith, length-append, leb-true}
use Rattle.bits.specs.Digits.{digits}
use Rattle.bits.specs.Codec.{Lawful}
use Rattle.bits.proofs.DigitLaws.{length_digits}
use Rattle.bits.proofs.Codecs.{lawful_field}
use Rattle.notes.specs.Countries.{upper, country_lawful, country_form, country_reads}
use Rattle.notes.specs.declared.country.Country.{Country}
use Rattle.texts.proofs.Bools.{both_true, and_true}
use Rattle.notes.specs.ReadingsLemmas.{lawful_guard, lawful_made, lawful_seq}

letter_below : (v : ℕ) → upper v ≡ true → v < 2 ^ 8
letter_below v e = omega (arith, leb-true v 90 (both_true _ _ e).1)

pub lawful_country : Lawful (λ c. country_lawful c ≡ true) country_form country_reads
lawful_country =
    lawful_made (λ c. country_lawful c ≡ true) (λ z. record { first = z.0; second = z.1 }) (λ c. (c.first, c.second))
    (λ c h. let b = both_true (upper c.first) (upper c.second) h in (((letter_below _ b.0, b.0), (letter_below _ b.1, b.1)), refl))
    (λ z h. (and_true _ _ h.0.1 h.1.1, refl))
    (lawful_seq (lawful_guard upper 6 (lawful_field 8 (omega arith))) (λ _ _. lawful_guard upper 6 (lawful_field 8 (omega arith))))

pub country_long : (c : Country) → length (country_form c) ≡ 16
country_long c = length-append (digits 8 c.first) (digits 8 c.second) ∙ omega (arith, length_digits 8 c.first, length_digits 8 c.second)
