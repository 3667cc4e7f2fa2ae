use Rattle.admission.proofs.Misread.{day_and_weekday}
use Rattle.admission.proofs.Worked.{may_day}
use Rattle.admission.proofs.laws.day_and_weekday_both_count.Goals as goal

pub returns : goal.returns
returns c = record { every = day_and_weekday; example = may_day }
