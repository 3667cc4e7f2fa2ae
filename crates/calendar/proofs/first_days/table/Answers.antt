use Rattle.std.proofs.Common.{refl}
use Rattle.calendar.specs.Gregorian.{month_length, rises}
use Rattle.calendar.proofs.first_days.table.Goals as goal

pub returns : goal.returns
unfolding rises month_length
returns c = refl
