use Rattle.std.proofs.Common.{◌++◌, subst, arith}
use Rattle.bits.specs.Digits.{digits}
use Rattle.bits.specs.Writer.{Wrote}
use Rattle.notes.proofs.Writings.{wrote_then}
use Rattle.notes.proofs.rule.Head.write.Goals as goal

pub returns : goal.returns
returns c =
    let h = c.args.self.now in
    subst (Wrote c.args.w.now c.put-5.new.w)
    (λ i. digits 1 (c.from.ensures i) ++ (digits 1 (c.flag_code.ensures i) ++ (digits 6 h.operations.bits ++ (digits 3 h.originators ++ (digits 2 h.contexts ++ digits 3 h.child_types)))))
    (wrote_then (omega arith) c.put.ensures (wrote_then c.put.ensures.room c.put-2.ensures (wrote_then c.put-2.ensures.room c.write.ensures
    (wrote_then c.write.ensures.room c.put-3.ensures (wrote_then c.put-3.ensures.room c.put-4.ensures c.put-5.ensures)))))
