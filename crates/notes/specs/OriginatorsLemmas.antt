-- Originator entries: where a text ends, and that entries read back. Assumes nothing.
use Rattle.std.specs.Prelude.{◌≡◌, ℕ, zero, suc, ◌+◌, ◌*◌, ◌^◌, ◌<◌, ◌≤◌, true, ◌&&◌, List, [], ◌∷◌, length, take, drop, Ok, nat_le, refl}
use Rattle.std.specs.List.{list_all}
use Rattle.std.proofs.Common.{sym, ap, ◌∙◌, arith, length-append, length-take-le, ⊎_elim, eqb-true, leb-true, lt-ltb, ltb-true}
use Rattle.std.specs.Int.Digits.{number_from_digits}
use Rattle.std.proofs.lemmas.List.{take_all}
use Rattle.std.proofs.lemmas.Bool.{cases_lt}
use Rattle.bits.specs.Digits.{digits}
use Rattle.bits.specs.Faults.{ended}
use Rattle.bits.specs.Codec.{field, text, bytes_of, Bytes, Lawful}
use Rattle.bits.proofs.DigitLaws.{length_digits, length_bits}
use Rattle.bits.proofs.Codecs.{ok_only, lawful_field, lawful_text}
use Rattle.notes.specs.Originators.{OriginatorValue, code, coded, length_lawful, text_lawful, kind_reads, length_reads, text_reads, is_byte, originator_of, originator_lawful, originator_form, originator_reads, kind_entry, entry_text, part}
use Rattle.notes.specs.declared.originator.Entry.{Entry}
use Rattle.notes.specs.declared.originator.Entry.TheVariants.{All as AllEntry, Pattern as PatternEntry, Domain as DomainEntry, Standing as StandingEntry}
use Rattle.notes.specs.declared.originator.EntryKind.{EntryKind}
use Rattle.notes.specs.declared.originator.EntryKind.TheVariants.{All, Pattern, Domain, Standing}
use Rattle.texts.proofs.Bools.{both_true, and_true}
use Rattle.notes.specs.ReadingsLemmas.{checked_ok, mapped_ok, lawful_guard, lawful_made, lawful_seq}

field_end : (w : ℕ) (ds : List ℕ) (p v q : ℕ) → field w ds p ≡ Ok (v, q) → q ≡ p + w
field_end w ds p v q e = sym (ap (λ z. z.1) (ok_only (nat_le w 128 && nat_le (p + w) (length ds)) (number_from_digits 2 (take w (drop p ds)), p + w) (v, q) (ended p) e).1)

pub kind_end : (ds : List ℕ) (p q : ℕ) (k : EntryKind) → kind_reads ds p ≡ Ok (k, q) → q ≡ p + 2
kind_end ds p q k e = let h = mapped_ok coded (field 2 ds p) k q e in field_end 2 ds p h.0 q h.1

pub length_end : (k : EntryKind) (ds : List ℕ) (p n q : ℕ) → length_reads k ds p ≡ Ok (n, q) → q ≡ p + 6
length_end k ds p n q e = field_end 6 ds p n q (checked_ok (length_lawful k) 2 p (field 6 ds p) n q e).0

pub text_end : (k : EntryKind) (n : ℕ) (ds : List ℕ) (p : ℕ) (t : List ℕ) (q : ℕ) → text_reads k n ds p ≡ Ok (t, q) → q ≡ p + 8 * n
unfolding text
text_end k n ds p t q e =
    let h = (checked_ok (text_lawful k) 3 p (text n ds p) t q e).0 in
    sym (ap (λ z. z.1) (ok_only (nat_le (p + 8 * n) (length ds)) (bytes_of n (drop p ds), p + 8 * n) (t, q) (ended p) h).1)

pub length_kept : (k : EntryKind) (ds : List ℕ) (p n q : ℕ) → length_reads k ds p ≡ Ok (n, q) → length_lawful k n ≡ true
length_kept k ds p n q e = (checked_ok (length_lawful k) 2 p (field 6 ds p) n q e).1

-- `all` has no text, and the others have theirs
pub entry_says : (k : EntryKind) (note : List ℕ) (place n : ℕ) → length_lawful k n ≡ true
    → originator_of note (record { entry = kind_entry k place n }) ≡ record { kind = k; text = part note place n }
entry_says All note place n l = λ i. record { kind = All; text = part note place (sym (eqb-true n 0 l) i) }
entry_says Pattern note place n l = refl
entry_says Domain note place n l = refl
entry_says Standing note place n l = refl

code_below : (k : EntryKind) → code k < 2 ^ 2
code_below All = omega arith
code_below Pattern = omega arith
code_below Domain = omega arith
code_below Standing = omega arith

coded_code : (k : EntryKind) → coded (code k) ≡ k
coded_code All = refl
coded_code Pattern = refl
coded_code Domain = refl
coded_code Standing = refl

code_coded : (n : ℕ) → n < 2 ^ 2 → code (coded n) ≡ n
code_coded zero h = refl
code_coded (suc zero) h = refl
code_coded (suc (suc zero)) h = refl
code_coded (suc (suc (suc zero))) h = refl
code_coded (suc (suc (suc (suc n)))) h = absurd (omega arith)

lawful_kind : Lawful (λ _. Unit {0}) (λ k. digits 2 (code k)) kind_reads
lawful_kind = lawful_made (λ _. Unit {0}) coded code (λ k _. (code_below k, coded_code k)) (λ n h. (tt, code_coded n h)) (lawful_field 2 (omega arith))

pub length_below : (k : EntryKind) (n : ℕ) → length_lawful k n ≡ true → n ≤ 40
length_below All n e = omega (arith, eqb-true n 0 e)
length_below Pattern n e = leb-true n 40 (both_true (nat_le 1 n) (nat_le n 40) e).1
length_below Domain n e = leb-true n 40 (both_true (nat_le 1 n) (nat_le n 40) e).1
length_below Standing n e = leb-true n 40 (both_true (nat_le 1 n) (nat_le n 40) e).1

bytes_each : (t : List ℕ) → list_all is_byte t ≡ true → Bytes t
bytes_each [] e = tt
bytes_each (b ∷ t) e = let h = both_true (is_byte b) (list_all is_byte t) e in (ltb-true b (2 ^ 8) h.0, bytes_each t h.1)

each_bytes : (t : List ℕ) → Bytes t → list_all is_byte t ≡ true
each_bytes [] h = refl
each_bytes (b ∷ t) h = and_true (is_byte b) (list_all is_byte t) (lt-ltb b (2 ^ 8) h.0) (each_bytes t h.1)

pub lawful_originator : Lawful (λ o. originator_lawful o ≡ true) originator_form originator_reads
lawful_originator =
    lawful_made (λ o. originator_lawful o ≡ true) (λ z. record { kind = z.0; text = z.1.1 }) (λ o. (o.kind, (length o.text, o.text)))
    (λ o h.
    let a = both_true (length_lawful o.kind (length o.text)) _ h in
    let b = both_true (text_lawful o.kind o.text) (list_all is_byte o.text) a.1 in
    let few : length o.text < 2 ^ 6 = omega (arith, length_below o.kind (length o.text) a.0) in
    ((tt, ((few, a.0), ((refl, bytes_each o.text b.1), b.0))), refl))
    (λ z h.
    let n : length z.1.1 ≡ z.1.0 = h.1.1.0.0 in
    (and_true _ _ (ap (length_lawful z.0) n ∙ h.1.0.1) (and_true _ _ h.1.1.1 (each_bytes z.1.1 h.1.1.0.1)), (λ i. (z.0, (n i, z.1.1)))))
    (lawful_seq lawful_kind (λ k _. lawful_seq (lawful_guard (length_lawful k) 2 (lawful_field 6 (omega arith))) (λ n _. lawful_guard (text_lawful k) 3 (lawful_text n))))

pub originator_long : (o : OriginatorValue) → length (originator_form o) ≡ 8 + 8 * length o.text
originator_long o = simp (length-append, length_digits, length_bits) (omega arith)

take_taken : (n : ℕ) (xs : List ℕ) → take n xs ≡ take (length (take n xs)) xs
take_taken n xs =
    ⊎_elim
    (λ (few : n < length xs). let l : length (take n xs) ≡ n = length-take-le n xs (omega arith) in ap (λ k. take k xs) (sym l))
    (λ (all : length xs ≤ n). let e = take_all n xs all in e ∙ sym (ap (λ l. take (length l) xs) e ∙ take_all (length xs) xs (omega arith)))
    (cases_lt n (length xs))

-- a text stands at a place of the note
pub text_place : (note : List ℕ) (e : Entry) → (place : ℕ) × (entry_text note e ≡ take (length (entry_text note e)) (drop place note))
text_place note AllEntry = (0, refl)
text_place note (PatternEntry place len) = (place, take_taken len (drop place note))
text_place note (DomainEntry place len) = (place, take_taken len (drop place note))
text_place note (StandingEntry place len) = (place, take_taken len (drop place note))
