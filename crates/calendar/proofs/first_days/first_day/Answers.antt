use Rattle.std.proofs.Common.{◌<◌, length, rules}
use Rattle.calendar.proofs.FirstDays.{entry}
use Rattle.calendar.proofs.first_days.first_day.Goals as goal

pub returns : goal.returns
returns c =
    let inside : c.args.month < length c.table.result.now = search rules in
    entry c.table.result.now c.table.ensures c.args.month inside
