use Rattle.members.proofs.Layering.{layers_keep_order}
use Rattle.members.proofs.piles.layers_keep_order.Goals as goal

pub returns : goal.returns
returns c = layers_keep_order
