use Rattle.std.proofs.Common.{arith}
use Rattle.notes.proofs.Writings.{wrote_then}
use Rattle.notes.specs.WindowsLemmas.{clock_long}
use Rattle.notes.proofs.window.ClockSets.write.Goals as goal

pub returns : goal.returns
returns c = wrote_then (omega (arith, clock_long c.args.self.now)) c.write.ensures (wrote_then c.write.ensures.room c.write-2.ensures c.write-3.ensures)
