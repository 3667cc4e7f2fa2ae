use Rattle.texts.proofs.Replacements.{replacing}
use Rattle.texts.proofs.matching.matching_is_replacing.Goals as goal

pub returns : goal.returns
returns c = replacing
