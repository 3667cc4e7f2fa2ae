use Rattle.std.proofs.Common.{arith}
use Rattle.calendar.specs.Civil.{month_index}
use Rattle.calendar.proofs.FirstDays.{month_length_le}
use Rattle.notes.proofs.window.DateSets.admits.Goals as goal

pub has-requires : goal.has-requires
has-requires c = omega (arith, month_length_le (month_index c.args.time))
