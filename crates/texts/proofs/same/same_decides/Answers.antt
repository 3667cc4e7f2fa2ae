use Rattle.texts.proofs.Sames.{same_is}
use Rattle.texts.proofs.same.same_decides.Goals as goal

pub returns : goal.returns
returns c = same_is
