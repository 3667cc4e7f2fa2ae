use Rattle.std.proofs.Common.{arith}
use Rattle.notes.proofs.Writings.{wrote_then}
use Rattle.notes.specs.WindowsLemmas.{date_long}
use Rattle.notes.proofs.window.DateSets.write.Goals as goal

pub returns : goal.returns
returns c =
    wrote_then (omega (arith, date_long c.args.self.now)) c.write.ensures
    (wrote_then c.write.ensures.room c.write-2.ensures (wrote_then c.write-2.ensures.room c.write-3.ensures c.write-4.ensures))
