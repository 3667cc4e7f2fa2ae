use Rattle.bits.proofs.Codecs.{lawful_field}
use Rattle.bits.proofs.laws.field_round_trip.Goals as goal

pub returns : goal.returns
returns c = lawful_field
