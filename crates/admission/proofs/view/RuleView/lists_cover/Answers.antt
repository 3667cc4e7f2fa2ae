use Rattle.std.proofs.Common.{◌&&◌, eqb, sym, ◌∙◌}
use Rattle.notes.specs.Constraints.{list_covers}
use Rattle.notes.specs.Contexts.{context_of, context_covers}
use Rattle.texts.specs.Few.{listed}
use Rattle.notes.specs.ConstraintsLemmas.{list_covers_map}
use Rattle.admission.proofs.view.RuleView.lists_cover.Goals as goal

pub returns-then-list_covers : goal.returns-then-list_covers
returns-then-list_covers c =
    let types = c.if-list_covers.ensures ∙ (λ i. list_covers eqb (c.child_types.ensures i) (c.child_types-2.ensures i)) in
    let contexts =
    c.list_covers-then-list_covers.ensures ∙ (λ i. list_covers (λ x y. context_covers (context_of x) (context_of y)) (c.contexts.ensures i) (c.contexts-then-list_covers.ensures i))
    ∙ sym (list_covers_map context_covers context_of (listed c.args.self.now.parts.now.contexts) (listed c.args.other.now.parts.now.contexts)) in
    λ i. types i && contexts i
