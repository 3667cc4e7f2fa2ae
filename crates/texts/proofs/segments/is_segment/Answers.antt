use Rattle.std.proofs.Common.{not, ◌&&◌, ap, ◌∙◌}
use Rattle.texts.specs.Texts.{segment}
use Rattle.texts.proofs.Searches.{none_is}
use Rattle.texts.proofs.segments.is_segment.Goals as goal

pub returns : goal.returns
unfolding segment
returns c = λ i. ap not (c.is_empty.ensures ∙ none_is c.args.text.now) i && c.has_all.ensures i
