use Rattle.std.proofs.Common.{◌≡◌, true, false, cond, Ok, Err, sym, ap, ◌∙◌, subst, MatchResult}
use Rattle.std.proofs.lemmas.Result.{err_from_is_err_and}
use Rattle.bits.specs.Digits.{bits}
use Rattle.bits.specs.Reader.{place}
use Rattle.notes.specs.Faults.{broken, report}
use Rattle.notes.specs.Rules.{rule_of, rule_reads, padded, finished, note_reads}
use Rattle.notes.proofs.rule.note.read_parts.Goals as goal

pub returns-in_err-parts : goal.returns-in_err-parts
unfolding note_reads
returns-in_err-parts c =
    let note = c.args.note.now in
    let e = c.in_err-parts.field-0.0 in
    let read : rule_reads (bits note) 0 ≡ Err (report e) =
    (λ i. rule_reads (bits (sym c.new-r.ensures.bytes i)) (sym c.new-r.ensures.place i)) ∙ c.in_err-parts.ensures.cases in
    let p = err_from_is_err_and c.from_residual.result c.from_residual.ensures.1 in
    subst (λ o. MatchResult o (λ x. note_reads note ≡ Ok (rule_of note x)) (λ x. note_reads note ≡ Err (report x))) (sym (p.1 ∙ ap Err p.2)) (ap (finished (bits note)) read)

pub returns-in_err-read_padding : goal.returns-in_err-read_padding
unfolding note_reads
returns-in_err-read_padding c =
    let note = c.args.note.now in
    let parts = c.in_ok-parts.parts in
    let q = place c.read.new.r in
    let told = c.in_ok-parts.ensures in
    let read : rule_reads (bits note) 0 ≡ Ok (rule_of note parts, q) =
    (λ i. rule_reads (bits (sym c.new-r.ensures.bytes i)) (sym c.new-r.ensures.place i)) ∙ told.cases ∙ (λ i. Ok (rule_of (c.new-r.ensures.bytes i) parts, q)) in
    let h = c.in_err-read_padding.ensures in
    let bad : padded (bits note) q ≡ false = ap (λ bs. padded (bits bs) q) (sym (told.kept ∙ c.new-r.ensures.bytes)) ∙ h.0 in
    let p = err_from_is_err_and c.from_residual-in_err-read_padding.result c.from_residual-in_err-read_padding.ensures.1 in
    let e = c.in_err-read_padding.field-0.0 in
    let all : note_reads note ≡ Err (report e) =
    ap (finished (bits note)) read ∙ ap (λ t. cond t (Ok (rule_of note parts)) (Err (broken 7 q))) bad ∙ (λ i. Err (sym h.1 i)) in
    subst (λ o. MatchResult o (λ x. note_reads note ≡ Ok (rule_of note x)) (λ x. note_reads note ≡ Err (report x))) (sym (p.1 ∙ ap Err p.2)) all

pub returns : goal.returns
unfolding note_reads
returns c =
    let note = c.args.note.now in
    let parts = c.in_ok-parts.parts in
    let told = c.in_ok-parts.ensures in
    let q = place c.read.new.r in
    let read : rule_reads (bits note) 0 ≡ Ok (rule_of note parts, q) =
    (λ i. rule_reads (bits (sym c.new-r.ensures.bytes i)) (sym c.new-r.ensures.place i)) ∙ told.cases ∙ (λ i. Ok (rule_of (c.new-r.ensures.bytes i) parts, q)) in
    let good : padded (bits note) q ≡ true = ap (λ bs. padded (bits bs) q) (sym (told.kept ∙ c.new-r.ensures.bytes)) ∙ c.in_ok-read_padding.ensures in
    ap (finished (bits note)) read ∙ ap (λ t. cond t (Ok (rule_of note parts)) (Err (broken 7 q))) good
