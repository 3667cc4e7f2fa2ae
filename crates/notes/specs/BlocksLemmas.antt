-- Blocks read back, and what a block covers it admits. Assumes nothing.
use Rattle.std.specs.Prelude.{◌≡◌, ℕ, zero, suc, ◌+◌, ◌-◌, ◌/◌, ◌^◌, ◌<◌, ◌≤◌, true, length, nat_le, nat_lt, refl}
use Rattle.std.proofs.Common.{sym, ap, ◌∙◌, arith, length-append, shr-shr}
use borrow.Author.Tests.{eq-eqb, leb-true, eqb-true, lt-ltb, ltb-true, clash}
use Rattle.bits.specs.Digits.{digits}
use Rattle.bits.specs.Codec.{Lawful}
use Rattle.bits.proofs.DigitLaws.{length_digits}
use Rattle.bits.proofs.Codecs.{lawful_field}
use Rattle.notes.specs.Families.{width, same_family, code, coded, family_reads}
use Rattle.notes.specs.Blocks.{low, prefix_lawful, address_lawful, block_lawful, block_form, block_reads, same_prefix, block_admits, block_covers}
use Rattle.notes.specs.declared.block.Address.{Address}
use Rattle.notes.specs.declared.block.Block.{Block}
use Rattle.notes.specs.declared.family.Family.{Family}
use Rattle.notes.specs.declared.family.Family.TheVariants.{Four, Six}
use Rattle.texts.proofs.Bools.{both_true, and_true}
use Rattle.notes.specs.ReadingsLemmas.{lawful_guard, lawful_made, lawful_seq}

pub width_within : (f : Family) → (width f ≤ 128) × (32 ≤ width f)
width_within Four = omega arith
width_within Six = omega arith

code_below : (f : Family) → code f < 2 ^ 1
code_below Four = omega arith
code_below Six = omega arith

coded_code : (f : Family) → coded (code f) ≡ f
coded_code Four = refl
coded_code Six = refl

code_coded : (n : ℕ) → n < 2 ^ 1 → code (coded n) ≡ n
code_coded zero h = refl
code_coded (suc zero) h = refl
code_coded (suc (suc n)) h = absurd (omega arith)

lawful_family : Lawful (λ _. Unit {0}) (λ f. digits 1 (code f)) family_reads
lawful_family = lawful_made (λ _. Unit {0}) coded code (λ f _. (code_below f, coded_code f)) (λ n h. (tt, code_coded n h)) (lawful_field 1 (omega arith))

pub lawful_block : Lawful (λ b. block_lawful b ≡ true) block_form block_reads
lawful_block =
    lawful_made (λ b. block_lawful b ≡ true) (λ z. record { family = z.0; prefix = z.1.0; address = z.1.1 }) (λ b. (b.family, (b.prefix, b.address)))
    (λ b h.
    let f = b.family in
    let one = both_true (prefix_lawful f b.prefix) _ h in
    let two = both_true (nat_lt b.address (2 ^ width f)) (address_lawful f b.prefix b.address) one.1 in
    let short : b.prefix < 2 ^ 8 = omega (arith, leb-true _ _ one.0, width_within f) in
    ((tt, ((short, one.0), (ltb-true _ _ two.0, two.1))), refl))
    (λ z h. (and_true _ _ h.1.0.1 (and_true _ _ (lt-ltb _ _ h.1.1.0) h.1.1.1), refl))
    (lawful_seq lawful_family (λ f _. lawful_seq (lawful_guard (prefix_lawful f) 5 (lawful_field 8 (omega arith)))
    (λ p _. lawful_guard (address_lawful f p) 5 (lawful_field (width f) (width_within f).0))))

pub block_long : (b : Block) → length (block_form b) ≡ 9 + width b.family
block_long b =
    simp length-append (omega (arith, length_digits 1 (code b.family), length_digits 8 b.prefix, length_digits (width b.family) b.address))

same_true : (f h : Family) → same_family f h ≡ true → f ≡ h
same_true Four Four e = refl
same_true Four Six e = absurd (clash e)
same_true Six Four e = absurd (clash e)
same_true Six Six e = refl

same_refl : (f : Family) → same_family f f ≡ true
same_refl Four = refl
same_refl Six = refl

pub block_sound : (a b : Block) (v : Address) → block_covers a b ≡ true → block_admits b v ≡ true → block_admits a v ≡ true
block_sound a b v c d =
    let c0 = both_true (nat_le a.prefix b.prefix) _ c in
    let c1 = both_true (same_family a.family b.family) (same_prefix a b.address) c0.1 in
    let d0 = both_true (same_family b.family v.family) (same_prefix b v.bits) d in
    let ab = same_true a.family b.family c1.0 in
    let bv = same_true b.family v.family d0.0 in
    let fam : same_family a.family v.family ≡ true = ap (same_family a.family) (sym (ab ∙ bv)) ∙ same_refl a.family in
    let w : width a.family ≡ width b.family = ap width ab in
    let k : low b + (low a - low b) ≡ low a = omega (arith, leb-true _ _ c0.0) in
    let up : (n : ℕ) → n / 2 ^ low a ≡ n / 2 ^ low b / 2 ^ (low a - low b) = λ n. ap (λ m. n / 2 ^ m) (sym k) ∙ sym (shr-shr n (low b) (low a - low b)) in
    let same : v.bits / 2 ^ low b ≡ b.address / 2 ^ low b = eqb-true _ _ d0.1 in
    let there : v.bits / 2 ^ low a ≡ a.address / 2 ^ low a = up v.bits ∙ ap (λ n. n / 2 ^ (low a - low b)) same ∙ sym (up b.address) ∙ eqb-true _ _ c1.1 in
    and_true _ _ fam (eq-eqb _ _ there)
