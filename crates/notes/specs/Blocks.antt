-- Blocks of addresses. Assumes nothing.
use Rattle.std.specs.Prelude.{ℕ, ◌-◌, ◌/◌, ◌%◌, ◌^◌, Bool, ◌&&◌, List, ◌++◌, ◌==◌, nat_le, nat_lt}
use Rattle.bits.specs.Digits.{digits}
use Rattle.bits.specs.Codec.{Reads, field}
use Rattle.notes.specs.Readings.{guard, seq, made}
use Rattle.notes.specs.Families.{width, same_family, code, family_reads}
use Rattle.notes.specs.declared.block.Address.{Address}
use Rattle.notes.specs.declared.block.Block.{Block}
use Rattle.notes.specs.declared.family.Family.{Family}

-- the prefix is not longer than an address
abbrev pub prefix_lawful : Family → ℕ → Bool
prefix_lawful f p = nat_le p (width f)

-- the bits beyond the prefix are zero
abbrev pub address_lawful : Family → ℕ → ℕ → Bool
address_lawful f p a = a % 2 ^ (width f - p) == 0

abbrev pub block_lawful : Block → Bool
block_lawful b = prefix_lawful b.family b.prefix && (nat_lt b.address (2 ^ width b.family) && address_lawful b.family b.prefix b.address)

abbrev pub block_form : Block → List ℕ
block_form b = digits 1 (code b.family) ++ (digits 8 b.prefix ++ digits (width b.family) b.address)

-- fault 5 at a prefix that is too long
abbrev pub prefix_reads : Family → Reads ℕ
prefix_reads f = guard (prefix_lawful f) 5 (field 8)

-- fault 5 at an address with a bit beyond the prefix
abbrev pub address_reads : Family → ℕ → Reads ℕ
address_reads f p = guard (address_lawful f p) 5 (field (width f))

abbrev pub block_reads : Reads Block
block_reads = made (λ z. record { family = z.0; prefix = z.1.0; address = z.1.1 }) (seq family_reads (λ f. seq (prefix_reads f) (address_reads f)))

-- the bits beyond the prefix
abbrev pub low : Block → ℕ
low b = width b.family - b.prefix

-- the same prefix bits
abbrev pub same_prefix : Block → ℕ → Bool
same_prefix b a = a / 2 ^ low b == b.address / 2 ^ low b

abbrev pub block_admits : Block → Address → Bool
block_admits b a = same_family b.family a.family && same_prefix b a.bits

-- a prefix that is no longer, and the other's address is admitted
abbrev pub block_covers : Block → Block → Bool
block_covers b c = nat_le b.prefix c.prefix && (same_family b.family c.family && same_prefix b c.address)
