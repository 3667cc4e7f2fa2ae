use Rattle.bits.proofs.Codecs.{lawful_text}
use Rattle.bits.proofs.laws.bytes_round_trip.Goals as goal

pub returns : goal.returns
returns c = lawful_text
