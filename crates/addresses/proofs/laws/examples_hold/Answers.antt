use Rattle.addresses.proofs.Readings as readings
use Rattle.addresses.proofs.laws.examples_hold.Goals as goal

pub returns : goal.returns
returns c = record { written = readings.written; refused = readings.refused }
