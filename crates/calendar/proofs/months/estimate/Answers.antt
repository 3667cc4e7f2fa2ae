use Rattle.calendar.proofs.MonthOf.{found, next}
use Rattle.calendar.proofs.months.estimate.Goals as goal

pub returns : goal.returns
returns c = record {
  value = c.min.ensures;
  found = found c.args.day c.min.result c.requires c.min.ensures;
  next = next c.args.day c.min.result c.requires c.min.ensures;
}
