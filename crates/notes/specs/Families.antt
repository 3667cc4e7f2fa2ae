-- Address families. Assumes nothing.
use Rattle.std.specs.Prelude.{ℕ, Bool, true, false, cond, ◌==◌}
use Rattle.bits.specs.Codec.{Reads, field}
use Rattle.notes.specs.Readings.{made}
use Rattle.notes.specs.declared.family.Family.{Family}
use Rattle.notes.specs.declared.family.Family.TheVariants.{Four, Six}

-- the bits of an address
abbrev pub width : Family → ℕ
width Four = 32
width Six = 128

abbrev pub same_family : Family → Family → Bool
same_family Four Four = true
same_family Four Six = false
same_family Six Four = false
same_family Six Six = true

-- the number of a family in its field
abbrev pub code : Family → ℕ
code Four = 0
code Six = 1

abbrev pub coded : ℕ → Family
coded n = cond (n == 0) Four Six

abbrev pub family_reads : Reads Family
family_reads = made coded (field 1)
