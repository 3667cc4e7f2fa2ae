use Rattle.std.proofs.Common.{◌≡◌, ◌/◌, Ok, sym, ap, ◌∙◌, arith}
use Rattle.bits.specs.Digits.{bits}
use Rattle.bits.specs.Reader.{bytes, place}
use Rattle.notes.specs.Originators.{originator_of, part, kind_reads, length_reads, text_reads}
use Rattle.notes.specs.Readings.{seq, mapped}
use Rattle.notes.specs.ReadingsLemmas.{seq_ok}
use Rattle.notes.specs.OriginatorsLemmas.{kind_end, length_end, length_kept, text_end, entry_says}
use Rattle.notes.proofs.originator.OriginatorItem.read_item.Goals as goal

pub returns : goal.returns
returns c =
    let k = c.in_ok-kind.kind in
    let n = c.in_ok-len.len in
    let t = c.in_ok-read_text.field-0.now in
    let one = c.in_ok-kind.ensures in
    let two = c.in_ok-len.ensures in
    let three = c.in_ok-read_text.ensures in
    let at0 = place c.args.r.now in
    let at1 = place c.read.new.r in
    let at2 = place c.read_length.new.r in
    let at3 = place c.read_text.new.r in
    let tail = seq_ok (length_reads k) (text_reads k) _ _ at1 at2 at3 n t two.cases (ap bits two.kept) three.read.cases in
    let all = seq_ok kind_reads (λ j. seq (length_reads j) (text_reads j)) _ _ at0 at1 at3 k (n, t) one.cases (ap bits one.kept) tail in
    let note = bytes c.args.r.now in
    let spot = c.place.result / 8 in
    let there : t ≡ part note spot n = three.part.is ∙ (λ i. part ((two.kept ∙ one.kept) i) (sym c.place.ensures i / 8) n) in
    let said : record { kind = k; text = t } ≡ originator_of note (record { entry = c.new.result }) =
    (λ i. record { kind = k; text = there i }) ∙ sym (entry_says k note spot n (length_kept k _ at1 n at2 two.cases)) ∙ (λ i. originator_of note (record { entry = sym c.new.ensures i })) in
    record {
      read = record { kept = three.read.kept ∙ two.kept ∙ one.kept; cases = ap (mapped (λ z. record { kind = z.0; text = z.1.1 })) all ∙ (λ i. Ok (said i, at3)) };
      behind = omega (arith, kind_end _ at0 at1 k one.cases, length_end k _ at1 n at2 two.cases, text_end k n _ at2 t at3 three.read.cases);
    }
