-- Countries. Assumes nothing.
use Rattle.std.specs.Prelude.{ℕ, Bool, ◌&&◌, List, ◌++◌, ◌==◌, nat_le}
use Rattle.bits.specs.Digits.{digits}
use Rattle.bits.specs.Codec.{Reads, field}
use Rattle.notes.specs.Readings.{guard, seq, made}
use Rattle.notes.specs.declared.country.Country.{Country}

-- a letter A to Z
abbrev pub upper : ℕ → Bool
upper b = nat_le 65 b && nat_le b 90

abbrev pub country_lawful : Country → Bool
country_lawful c = upper c.first && upper c.second

abbrev pub country_form : Country → List ℕ
country_form c = digits 8 c.first ++ digits 8 c.second

-- fault 6 at a letter that is not A to Z
abbrev pub letter_reads : Reads ℕ
letter_reads = guard upper 6 (field 8)

abbrev pub country_reads : Reads Country
country_reads = made (λ z. record { first = z.0; second = z.1 }) (seq letter_reads (λ _. letter_reads))

abbrev pub country_same : Country → Country → Bool
country_same c d = c.first == d.first && c.second == d.second
