use Rattle.std.proofs.Common.{◌≡◌, ◌+◌, ◌-◌, ◌*◌, ◌/◌, length, ap, ◌∙◌, subst, arith}
use Rattle.bits.specs.Digits.{digits}
use Rattle.bits.specs.Writer.{Wrote}
use Rattle.notes.specs.Notes.{rule_note, rule_value}
use Rattle.notes.specs.Rules.{rule_of, rule_form}
use Rattle.notes.proofs.Notes.{pad, filled_by}
use Rattle.notes.specs.RulesLemmas.{rule_short}
use Rattle.notes.proofs.Writings.{wrote_then}
use Rattle.notes.proofs.rule.Rule.write_to.Goals as goal

pub write-requires : goal.write-requires
write-requires c =
    let self = c.args.self.now in
    omega (arith, rule_short (rule_value self) self.lawful, ap (λ l. length (rule_form (rule_of l self.plain.parts))) c.note.ensures, ap length c.new-w.ensures.bytes, c.new-w.ensures.start)

pub returns : goal.returns
returns c =
    let self = c.args.self.now in
    let r = rule_value self in
    let first = c.new-w.result in
    let last = c.put.new.w in
    let form-is : rule_form (rule_of c.note.result.now self.plain.parts) ≡ rule_form r = ap (λ l. rule_form (rule_of l self.plain.parts)) c.note.ensures in
    let one : Wrote first c.write.new.w (rule_form r) = subst (Wrote first c.write.new.w) form-is c.write.ensures in
    let at : c.place-end.result ≡ length (rule_form r) = c.place-end.ensures ∙ omega (arith, one.moved, c.new-w.ensures.start) in
    let pad-is : (c.place-end.result + 7) / 8 * 8 - c.place-end.result ≡ pad (length (rule_form r)) = omega arith in
    let two : Wrote c.write.new.w last (digits (pad (length (rule_form r))) 0) = subst (λ k. Wrote c.write.new.w last (digits k 0)) pad-is c.put.ensures in
    let both = wrote_then (omega (arith, c.new-w.ensures.start)) one two in
    let lent = both.lent in
    filled_by r (rule_note self) self.lawful self.same c.args.out.now _ first last _ c.new-w.ensures.bytes c.new-w.ensures.start (grind arith) c.requires (λ i. (c.type_inv.out i).fits)
    (ap (λ k. (k + 7) / 8) at) both
