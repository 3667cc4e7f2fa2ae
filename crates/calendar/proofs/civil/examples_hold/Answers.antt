use Rattle.calendar.proofs.Readings.{examples}
use Rattle.calendar.proofs.civil.examples_hold.Goals as goal

pub returns : goal.returns
returns c = examples
