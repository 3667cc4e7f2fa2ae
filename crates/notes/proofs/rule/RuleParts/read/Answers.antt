use Rattle.std.proofs.Common.{◌≡◌, map, Ok, ap, ◌∙◌}
use Rattle.std.proofs.lemmas.List.{map-id}
use Rattle.bits.specs.Digits.{bits}
use Rattle.bits.specs.Codec.{field}
use Rattle.bits.specs.Reader.{bytes, source, place}
use Rattle.notes.specs.Contexts.{context_of, context_reads}
use Rattle.texts.specs.Few.{listed}
use Rattle.notes.specs.Originators.{originator_of, originator_reads}
use Rattle.notes.specs.Readings.{seq, mapped, times}
use Rattle.notes.specs.Rules.{RuleValue, head_reads}
use Rattle.notes.specs.ReadingsLemmas.{seq_ok}
use Rattle.notes.proofs.rule.RuleParts.read.Goals as goal

pub returns : goal.returns
returns c =
    let h = c.in_ok-head.head in
    let note = bytes c.args.r.now in
    let os = map (originator_of note) (listed c.in_ok-originators.originators) in
    let ts = listed c.in_ok-child_types.child_types in
    let cs = map context_of (listed c.in_ok-contexts.contexts) in
    let one = c.in_ok-head.ensures.read in
    let two = c.in_ok-originators.ensures.read in
    let three = c.in_ok-child_types.ensures.read in
    let four = c.in_ok-contexts.ensures.read in
    let at0 = place c.args.r.now in
    let at1 = place c.read.new.r in
    let at2 = place c.read_list.new.r in
    let at3 = place c.read_list-2.new.r in
    let at4 = place c.read_list-3.new.r in
    let second : times h.originators originator_reads (source c.read.new.r) at1 ≡ Ok (os, at2) =
    two.cases ∙ (λ i. Ok (map (originator_of (one.kept i)) (listed c.in_ok-originators.originators), at2)) in
    let third : times h.child_types (field 16) (source c.read_list.new.r) at2 ≡ Ok (ts, at3) = three.cases ∙ (λ i. Ok (map-id ts i, at3)) in
    let tail = seq_ok (times h.child_types (field 16)) (λ _. times h.contexts context_reads) _ _ at2 at3 at4 ts cs third (ap bits three.kept) four.cases in
    let items = seq_ok (times h.originators originator_reads) (λ _. seq (times h.child_types (field 16)) (λ _. times h.contexts context_reads)) _ _ at1 at2 at4 os (ts, cs) second (ap bits two.kept) tail in
    let all =
    seq_ok head_reads (λ k. seq (times k.originators originator_reads) (λ _. seq (times k.child_types (field 16)) (λ _. times k.contexts context_reads))) _ _ at0 at1 at4 h (os, (ts, cs)) one.cases
    (ap bits one.kept) items in
    record {
      kept = four.kept ∙ three.kept ∙ two.kept ∙ one.kept;
      cases = ap (mapped {Y = RuleValue} (λ z. record { side = z.0.side; authenticated = z.0.authenticated; operations = z.0.operations.bits; originators = z.1.0; types = z.1.1.0; contexts = z.1.1.1 })) all;
    }
