use Rattle.std.proofs.Common.{◌≤◌, length, Ok, Err, Result, sym, refl, ap, ◌∙◌, arith, MatchResult}
use Rattle.std.specs.Prelude.{IsOk}
use Rattle.notes.specs.Rules.{rule_of, rule_lawful, note_of}
use Rattle.notes.proofs.Notes.{read_facts}
use Rattle.notes.proofs.rule.Rule.read.Goals as goal

-- an answer that cannot be an error is none
ok : {X E : Type 0} (r : Result X E) (P : X → Type 0) (Q : E → Type 0) → MatchResult r P Q → ((e : E) → Q e → ⊥) → IsOk r
ok (Ok x) P Q h none = refl
ok (Err e) P Q h none = absurd (none e h)

pub unwrap-note-requires : goal.unwrap-note-requires
unwrap-note-requires c =
    let short : length c.args.note.now ≤ 615 = (read_facts c.args.note.now (λ i. (c.type_inv.note i).fits) _ c.in_ok-parts.ensures).2 in
    ok c.of.result _ _ c.of.ensures (λ e long. omega (arith, short))

pub invariant_of-result : goal.invariant_of-result
invariant_of-result c =
    let facts = read_facts c.args.note.now (λ i. (c.type_inv.note i).fits) _ c.in_ok-parts.ensures in
    let parts = c.in_ok-parts.parts in
    let same = (rw c.unwrap-note.ensures at c.of.ensures).1 in
    record {
      lawful = ap (λ l. rule_lawful (rule_of l parts)) same ∙ facts.0;
      same = ap (λ l. note_of (rule_of l parts)) same ∙ facts.1 ∙ sym same;
    }
