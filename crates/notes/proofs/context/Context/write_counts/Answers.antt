use Rattle.std.proofs.Common.{◌++◌, length, subst, arith}
use Rattle.bits.specs.Digits.{digits}
use Rattle.bits.specs.Writer.{Wrote}
use Rattle.notes.proofs.Writings.{wrote_then}
use Rattle.notes.proofs.context.Context.write_counts.Goals as goal

pub returns : goal.returns
returns c =
    subst (Wrote c.args.w.now c.put-3.new.w)
    (λ i. digits 3 (length (c.as_slice.ensures i)) ++ (digits 3 (length (c.as_slice-2.ensures i)) ++ digits 2 (length (c.as_slice-3.ensures i))))
    (wrote_then (omega arith) c.put.ensures (wrote_then c.put.ensures.room c.put-2.ensures c.put-3.ensures))
