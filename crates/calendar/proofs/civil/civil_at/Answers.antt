use Rattle.std.proofs.Common.{◌/◌, arith, rules}
use Rattle.calendar.specs.Civil.{civil_of}
use Rattle.calendar.proofs.MonthOf.{in_month}
use Rattle.calendar.proofs.civil.civil_at.Goals as goal

pub day_of_month-requires : goal.day_of_month-requires
day_of_month-requires c =
    in_month (c.args.seconds / 86400) c.month_of-month.result (omega arith) c.month_of-month.ensures

pub overflow_cast-result-5 : goal.overflow_cast-result-5
overflow_cast-result-5 c =
    omega (
      arith,
      in_month (c.args.seconds / 86400) c.month_of-month.result (omega arith) c.month_of-month.ensures,
    )

pub returns : goal.returns
unfolding civil_of
returns c = search rules
