use Rattle.std.proofs.Common.{arith}
use Rattle.notes.proofs.Writings.{wrote_then}
use Rattle.notes.specs.WindowsLemmas.{window_long}
use Rattle.notes.proofs.window.WindowWritable.write.Goals as goal

pub returns : goal.returns
returns c = wrote_then (omega (arith, window_long c.args.self.now)) c.write.ensures c.write-2.ensures
