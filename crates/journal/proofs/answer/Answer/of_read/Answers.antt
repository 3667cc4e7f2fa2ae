use Rattle.std.proofs.Common.{refl}
use Rattle.journal.proofs.answer.Answer.of_read.Goals as goal

pub returns-in-Ok : goal.returns-in-Ok
returns-in-Ok c = rw c.in-Ok.ensures.1 (c.in-Ok.rule, refl, refl)
