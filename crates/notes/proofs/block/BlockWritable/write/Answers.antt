use Rattle.std.proofs.Common.{◌++◌, subst, arith}
use Rattle.bits.specs.Digits.{digits}
use Rattle.bits.specs.Writer.{Wrote}
use Rattle.notes.proofs.Writings.{wrote_then}
use Rattle.notes.specs.BlocksLemmas.{block_long}
use Rattle.notes.proofs.block.BlockWritable.write.Goals as goal

pub returns : goal.returns
returns c =
    let b = c.args.self.now in
    subst (Wrote c.args.w.now c.put-3.new.w) (λ i. digits 1 (c.from.ensures i) ++ (digits 8 b.prefix ++ digits (c.width.ensures i) b.address))
    (wrote_then (omega (arith, block_long b)) c.put.ensures (wrote_then c.put.ensures.room c.put-2.ensures c.put-3.ensures))
