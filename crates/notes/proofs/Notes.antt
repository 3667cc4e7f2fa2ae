-- The laws of notes. Assumes nothing.
use Rattle.std.proofs.Common.{◌≡◌, ℕ, zero, suc, ◌+◌, ◌-◌, ◌*◌, ◌/◌, ◌%◌, ◌^◌, ◌<◌, ◌≤◌, true, cond, eqb, ltb, List, [], ◌∷◌, ◌++◌, length, get_or, take, drop, replicate, Ok, Err, Result, sym, refl, ap, ◌∙◌, subst, zero-add, arith, length-append, length-drop, take-append-drop, length-take-le, take_at, drop_at, ltb-true, lt-ltb, eqb-true}
use native.Mathlib.Nat.{zero-div}
use lib.ListN.{length-replicate}
use lib.Seq.{take-append-add}
use Rattle.std.specs.Int.Digits.{AllBelowBase}
use Rattle.std.proofs.lemmas.List.{take-replicate}
use Rattle.std.proofs.ByRecursion.{All-append, All-take}
use Rattle.bits.specs.Digits.{digits, bits, laid}
use Rattle.bits.specs.Codec.{bytes_of, Bytes}
use Rattle.bits.specs.Writer.{held, end, Wrote}
use Rattle.bits.specs.declared.writer.BitWriter.{BitWriter}
use Rattle.bits.specs.declared.fault.Report.{Report}
use Rattle.bits.proofs.DigitLaws.{length_digits, length_bits, length_bits_take, under_bits, bits_append}
use Rattle.bits.proofs.Codecs.{ok_only, bytes_from, bytes_of_bits, length_bytes_of, small_bytes_of, bits_bytes_of}
use Rattle.notes.proofs.Padding.{zeros}
use Rattle.notes.specs.Faults.{broken}
use Rattle.notes.specs.Rules.{RuleValue, rule_lawful, rule_form, rule_reads, padded, finished, note_reads, note_of}
use Rattle.notes.specs.Notes.{Filled, WrittenBack, ReadBack, NoteDecides}
use Rattle.texts.proofs.Bools.{both_true, and_true}
use Rattle.notes.specs.RulesLemmas.{lawful_rule, rule_short}

zeros_replicate : (k : ℕ) → zeros (replicate k 0) ≡ true
zeros_replicate zero = refl
zeros_replicate (suc k) = zeros_replicate k

replicate_zeros : (ds : List ℕ) → zeros ds ≡ true → ds ≡ replicate (length ds) 0
replicate_zeros [] e = refl
replicate_zeros (d ∷ ds) e =
    let b = both_true (eqb d 0) (zeros ds) e in
    (λ i. eqb-true d 0 b.0 i ∷ replicate_zeros ds b.1 i)

under_replicate : (k : ℕ) → AllBelowBase 2 (replicate k 0)
under_replicate zero = tt
under_replicate (suc k) = (omega arith, under_replicate k)

-- the whole bytes that a row of n bits needs, and the bits that are left of the last one
abbrev pub size : ℕ → ℕ
size n = (n + 7) / 8

abbrev pub pad : ℕ → ℕ
pad n = 8 * size n - n

pub front_bits : (form : List ℕ) → take (8 * size (length form)) (form ++ replicate 7 0) ≡ form ++ replicate (pad (length form)) 0
front_bits form =
    let n = length form in
    let e : 8 * size n ≡ n + pad n = omega arith in
    let few : pad n ≤ 7 = omega arith in
    ap (λ k. take k (form ++ replicate 7 0)) e ∙ take-append-add form (replicate 7 0) (pad n) ∙ ap (λ l. form ++ l) (take-replicate (pad n) 7 0 few)

-- bits that spell the same n bytes
pub bytes_of_same : (n : ℕ) (ds : List ℕ) (bs : List ℕ) → AllBelowBase 2 ds → Bytes bs → 8 * n ≤ length ds → length bs ≡ n → take (8 * n) ds ≡ bits bs → bytes_of n ds ≡ bs
bytes_of_same n ds bs u h long few e =
    let spelt : bits (bytes_of n ds) ≡ bits bs = bits_bytes_of n ds u long ∙ e in
    let there : (xs : List ℕ) → Bytes xs → length xs ≡ n → bytes_of n (bits xs ++ []) ≡ xs = λ xs k l. ap (λ m. bytes_of m (bits xs ++ [])) (sym l) ∙ bytes_of_bits xs [] k in
    sym (there (bytes_of n ds) (small_bytes_of n ds u long) (length_bytes_of n ds)) ∙ ap (λ l. bytes_of n (l ++ [])) spelt ∙ there bs h few

finished_ok : (ds : List ℕ) (x : Result (RuleValue × ℕ) Report) (r : RuleValue) → finished ds x ≡ Ok r → (q : ℕ) × (x ≡ Ok (r, q)) × (padded ds q ≡ true)
finished_ok ds (Ok x) r e = let h = ok_only (padded ds x.1) x.0 r (broken 7 x.1) e in (x.1, (λ i. Ok (h.1 i, x.1)), h.0)
finished_ok ds (Err e) r k = let clash : ◌≡◌ {A = ℕ} 0 1 = cc in absurd (omega arith)

under_padded : (r : RuleValue) → rule_lawful r ≡ true → (k : ℕ) → AllBelowBase 2 (rule_form r ++ replicate k 0)
under_padded r h k = All-append _ (rule_form r) (replicate k 0) (lawful_rule.binary r h) (under_replicate k)

pub written_back : WrittenBack
unfolding note_reads note_of
written_back note h r e =
    let ds = bits note in
    let f = finished_ok ds (rule_reads ds 0) r e in
    let g = lawful_rule.forth ds (under_bits note) 0 r f.0 f.1 in
    let form = rule_form r in
    let n = length form in
    let p = both_true (ltb (length ds - f.0) 8) (zeros (drop f.0 ds)) f.2 in
    let at : f.0 ≡ n = omega (arith, g.1) in
    let rest = drop n ds in
    let few : length ds - n < 8 = subst (λ q. length ds - q < 8) at (ltb-true _ 8 p.0) in
    let blank : rest ≡ replicate (length rest) 0 = replicate_zeros rest (subst (λ q. zeros (drop q ds) ≡ true) at p.1) in
    let whole : form ++ rest ≡ ds = ap (λ l. l ++ rest) (sym g.2) ∙ take-append-drop n ds in
    let sum : length ds ≡ n + length rest = sym (ap length whole) ∙ length-append form rest in
    let long : length ds ≡ 8 * length note = length_bits note in
    let size_is : size n ≡ length note = omega (arith, length-drop n ds) in
    let pad-is : pad n ≡ length rest = omega (arith, length-drop n ds) in
    let room : 8 * size n ≤ length (form ++ replicate 7 0) = simp (length-append, length-replicate) (omega arith) in
    let front : take (8 * size n) (form ++ replicate 7 0) ≡ ds = front_bits form ∙ ap (λ k. form ++ replicate k 0) pad-is ∙ ap (λ l. form ++ l) (sym blank) ∙ whole in
    (g.0, bytes_of_same (size n) (form ++ replicate 7 0) note (under_padded r g.0 7) h room (sym size_is) front)

pub read_back : ReadBack
unfolding note_reads note_of
read_back r h =
    let form = rule_form r in
    let n = length form in
    let k = pad n in
    let under = under_padded r h 7 in
    let room : 8 * size n ≤ length (form ++ replicate 7 0) = simp (length-append, length-replicate) (omega arith) in
    let spelt : bits (note_of r) ≡ form ++ replicate k 0 = bits_bytes_of (size n) (form ++ replicate 7 0) under room ∙ front_bits form in
    let read : rule_reads (form ++ replicate k 0) 0 ≡ Ok (r, 0 + n) = lawful_rule.back r h [] (replicate k 0) in
    let rest : drop n (form ++ replicate k 0) ≡ replicate k 0 = drop_at form (replicate k 0) n refl in
    let few : length (form ++ replicate k 0) - n < 8 = simp (length-append, length-replicate) (omega arith) in
    let good : padded (form ++ replicate k 0) (0 + n) ≡ true =
    ap (padded (form ++ replicate k 0)) (zero-add n) ∙ and_true _ _ (lt-ltb _ 8 few) (ap zeros rest ∙ zeros_replicate k) in
    let all : finished (form ++ replicate k 0) (rule_reads (form ++ replicate k 0) 0) ≡ Ok r =
    ap (finished (form ++ replicate k 0)) read ∙ ap (λ t. cond t (Ok r) (Err (broken 7 (0 + n)))) good in (
      small_bytes_of (size n) (form ++ replicate 7 0) under room,
      omega (arith, length_bytes_of (size n) (form ++ replicate 7 0), rule_short r h),
      ap (λ l. finished l (rule_reads l 0)) spelt ∙ all,
    )

pub note_decides : NoteDecides
note_decides r s hr hs e =
    let one = (read_back r hr).2 in
    let two = (read_back s hs).2 in
    let same : note_reads (note_of r) ≡ note_reads (note_of s) = ap note_reads e in
    let both : ◌≡◌ {A = RuleValue} r s = cc in
    both

-- what is known of a rule that was read
pub read_facts : (note : List ℕ) → ((i : ℕ) → get_or note i 0 < 256) → (r : RuleValue) → note_reads note ≡ Ok r → (rule_lawful r ≡ true) × (note_of r ≡ note) × (length note ≤ 615)
read_facts note small r e =
    let w = written_back note (bytes_from note small) r e in
    (w.0, w.1, subst (λ l. length l ≤ 615) w.1 (read_back r w.0).1)

zero_digits : (k : ℕ) → digits k 0 ≡ replicate k 0
unfolding digits
zero_digits zero = refl
zero_digits (suc k) =
    let none : 0 / 2 ^ k % 2 ≡ 0 = rw (zero-div (2 ^ k)) refl in
    (λ i. none i ∷ zero_digits k i)

laid_start : (d s : List ℕ) → laid d 0 s ≡ s ++ drop (0 + length s) d
unfolding laid
laid_start d s = refl

bits_take : (k : ℕ) (bs : List ℕ) → k ≤ length bs → take (8 * k) (bits bs) ≡ bits (take k bs)
bits_take k bs l =
    let cut : bits bs ≡ bits (take k bs) ++ bits (drop k bs) = ap bits (sym (take-append-drop k bs)) ∙ bits_append (take k bs) (drop k bs) in
    ap (take (8 * k)) cut ∙ take_at (bits (take k bs)) (bits (drop k bs)) (8 * k) (length_bits_take bs k l)

-- a buffer whose first bits are a rule's form and zeros up to a whole byte
pub filled : (r : RuleValue) → rule_lawful r ≡ true → (before after : List ℕ) → length after ≡ length before → 615 ≤ length before → ((i : ℕ) → get_or after i 0 < 256)
    → bits after ≡ laid (bits before) 0 (rule_form r ++ digits (pad (length (rule_form r))) 0)
    → ((k : ℕ) → 8 * size (length (rule_form r)) ≤ 8 * k → drop k after ≡ drop k before)
    → Filled (note_of r) before after (size (length (rule_form r)))
unfolding note_of
filled r h before after same room small laid-down behind =
    let form = rule_form r in
    let n = length form in
    let m = size n in
    let few : m ≤ length after = omega (arith, rule_short r h) in
    let whole = form ++ digits (pad n) 0 in
    let long : length whole ≡ 8 * m = length-append form (digits (pad n) 0) ∙ omega (arith, length_digits (pad n) 0) in
    let front : take (8 * m) (bits after) ≡ whole = ap (take (8 * m)) (laid-down ∙ laid_start (bits before) whole) ∙ take_at whole _ (8 * m) long in
    let bytes = take m after in
    let spelt : bits bytes ≡ take (8 * m) (bits after) = sym (bits_take m after few) in
    let same_bits : take (8 * m) (form ++ replicate 7 0) ≡ bits bytes = front_bits form ∙ ap (λ l. form ++ l) (sym (zero_digits (pad n))) ∙ sym front ∙ sym spelt in
    let under = under_padded r h 7 in
    let space : 8 * m ≤ length (form ++ replicate 7 0) = simp (length-append, length-replicate) (omega arith) in
    record {
      size = sym (length_bytes_of m (form ++ replicate 7 0));
      front = sym (bytes_of_same m (form ++ replicate 7 0) bytes under (All-take _ m after (bytes_from after small)) space (length-take-le m after few) same_bits);
      behind = behind m (omega arith);
    }

-- the same of a buffer that a writer has filled
pub filled_by : (r : RuleValue) (note : List ℕ) → rule_lawful r ≡ true → note_of r ≡ note → (before after : List ℕ) (first last : BitWriter) (n : ℕ)
    → held first ≡ before → end first ≡ 0 → after ≡ held last → 615 ≤ length before → ((i : ℕ) → get_or after i 0 < 256) → n ≡ size (length (rule_form r))
    → Wrote first last (rule_form r ++ digits (pad (length (rule_form r))) 0) → Filled note before after n
filled_by r note h same before after first last n start zero-end out room small size_is w =
    let form = rule_form r in
    let whole = form ++ digits (pad (length form)) 0 in
    let bits_are : bits after ≡ laid (bits before) 0 whole = ap bits out ∙ w.written ∙ (λ i. laid (bits (start i)) (zero-end i) whole) in
    let moved : end last ≡ 8 * size (length form) = omega (arith, w.moved, length-append form (digits (pad (length form)) 0), length_digits (pad (length form)) 0) in
    let long : length after ≡ length before = ap length out ∙ w.size ∙ ap length start in
    let behind : (k : ℕ) → 8 * size (length form) ≤ 8 * k → drop k after ≡ drop k before = λ k l. ap (drop k) out ∙ w.behind k (omega arith) ∙ ap (drop k) start in
    let done = filled r h before after long room small bits_are behind in
    record { size = size_is ∙ done.size ∙ ap length same; front = ap (λ k. take k after) size_is ∙ done.front ∙ same; behind = (λ i. drop (size_is i) after) ∙ done.behind ∙ (λ i. drop (sym size_is i) before) }
