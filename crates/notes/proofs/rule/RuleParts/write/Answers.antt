use Rattle.std.proofs.Common.{◌≡◌, ℕ, ◌+◌, List, ◌++◌, length, sym, ap, ◌∙◌, subst, arith}
use Rattle.std.specs.List.{flat_map}
use Rattle.bits.specs.Digits.{digits}
use Rattle.bits.specs.Writer.{Wrote}
use Rattle.notes.specs.Contexts.{context_of, context_form}
use Rattle.texts.specs.Few.{listed}
use Rattle.notes.specs.Originators.{originator_of, originator_form}
use Rattle.notes.specs.Rules.{rule_of, rule_form, head_form}
use Rattle.notes.specs.declared.rule.RuleParts.{RuleParts}
use Rattle.notes.specs.RulesLemmas.{head_long, rule_long}
use Rattle.notes.proofs.Writings.{wrote_then, joined_map}
use Rattle.notes.proofs.rule.RuleParts.write.Goals as goal

-- the lengths of the three lists, as they are written and as the rule's form has them
long : (note : List ℕ) (p : RuleParts) → length (rule_form (rule_of note p))
    ≡ 16
    + (length (flat_map (λ o. originator_form (originator_of note o)) (listed p.originators))
    + (length (flat_map (digits 16) (listed p.child_types)) + length (flat_map (λ x. context_form (context_of x)) (listed p.contexts))))
long note p =
    rule_long (rule_of note p)
    ∙ (λ i. 16 + (length (joined_map originator_form (originator_of note) (listed p.originators) i)
    + (length (flat_map (digits 16) (listed p.child_types)) + length (joined_map context_form context_of (listed p.contexts) i))))

pub write-requires : goal.write-requires
write-requires c = omega (arith, long c.args.note.now c.args.self.now)

pub write_list-requires : goal.write_list-requires
write_list-requires c =
    omega (
      arith,
      long c.args.note.now c.args.self.now,
      head_long c.head.result,
      c.write.ensures.moved,
      c.write.ensures.size,
      ap (λ l. length (flat_map (λ o. originator_form (originator_of c.args.note.now o)) l)) c.as_slice.ensures,
    )

pub write_list-requires-2 : goal.write_list-requires-2
write_list-requires-2 c =
    omega (
      arith,
      long c.args.note.now c.args.self.now,
      head_long c.head.result,
      c.write.ensures.moved,
      c.write.ensures.size,
      ap (λ l. length (flat_map (λ o. originator_form (originator_of c.args.note.now o)) l)) c.as_slice.ensures,
      c.write_list.ensures.moved,
      c.write_list.ensures.size,
      ap (λ l. length (flat_map (digits 16) l)) c.as_slice-2.ensures,
    )

pub write_list-requires-3 : goal.write_list-requires-3
write_list-requires-3 c =
    omega (
      arith,
      long c.args.note.now c.args.self.now,
      head_long c.head.result,
      c.write.ensures.moved,
      c.write.ensures.size,
      ap (λ l. length (flat_map (λ o. originator_form (originator_of c.args.note.now o)) l)) c.as_slice.ensures,
      c.write_list.ensures.moved,
      c.write_list.ensures.size,
      ap (λ l. length (flat_map (digits 16) l)) c.as_slice-2.ensures,
      c.write_list-2.ensures.moved,
      c.write_list-2.ensures.size,
      ap (λ l. length (flat_map (λ x. context_form (context_of x)) l)) c.as_slice-3.ensures,
    )

pub returns : goal.returns
returns c =
    let note = c.args.note.now in
    let p = c.args.self.now in
    let os : flat_map (λ o. originator_form (originator_of note o)) c.as_slice.result.now ≡ flat_map originator_form (rule_of note p).originators =
    ap (flat_map (λ o. originator_form (originator_of note o))) c.as_slice.ensures ∙ sym (joined_map originator_form (originator_of note) (listed p.originators)) in
    let cs : flat_map (λ x. context_form (context_of x)) c.as_slice-3.result.now ≡ flat_map context_form (rule_of note p).contexts =
    ap (flat_map (λ x. context_form (context_of x))) c.as_slice-3.ensures ∙ sym (joined_map context_form context_of (listed p.contexts)) in
    subst (Wrote c.args.w.now c.write_list-3.new.w)
    (λ i. head_form (c.head.ensures note i) ++ (os i ++ (flat_map (digits 16) (c.as_slice-2.ensures i) ++ cs i)))
    (wrote_then (omega arith) c.write.ensures (wrote_then c.write.ensures.room c.write_list.ensures (wrote_then c.write_list.ensures.room c.write_list-2.ensures c.write_list-3.ensures)))
