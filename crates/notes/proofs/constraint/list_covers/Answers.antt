use Rattle.std.proofs.Common.{not, ◌&&◌, ◌||◌, ◌∙◌}
use Rattle.notes.specs.Constraints.{list_covers}
use Rattle.texts.proofs.Searches.{none_is}
use Rattle.notes.proofs.constraint.list_covers.Goals as goal

pub returns : goal.returns
unfolding list_covers
returns g c =
    let empty = c.is_empty.ensures ∙ none_is c.args.items.now in
    let others = c.is_empty-2.ensures ∙ none_is c.args.others.now in
    λ i. empty i || (not (others i) && c.each_covered.ensures i)
