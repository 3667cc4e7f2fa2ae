use Rattle.std.proofs.Common.{◌++◌, length, ap, ◌∙◌, subst, arith}
use Rattle.bits.specs.Digits.{digits, bits}
use Rattle.bits.specs.Writer.{Wrote}
use Rattle.notes.specs.Originators.{originator_of, code}
use Rattle.notes.specs.OriginatorsLemmas.{originator_long}
use Rattle.notes.proofs.Writings.{wrote_then}
use Rattle.notes.proofs.originator.OriginatorItem.write_item.Goals as goal

pub returns : goal.returns
returns c =
    subst (Wrote c.args.w.now c.put_bytes.new.w)
    (λ i. digits 2 ((c.from.ensures ∙ ap code c.kind.ensures) i) ++ (digits 6 (length (c.text-text.ensures i)) ++ bits (c.text-text.ensures i)))
    (wrote_then (omega (arith, originator_long (originator_of c.args.note.now c.args.self.now))) c.put.ensures (wrote_then c.put.ensures.room c.put-2.ensures c.put_bytes.ensures))
