use Rattle.std.proofs.Common.{◌≡◌, ◌&&◌, Some, ap, ◌∙◌}
use Rattle.notes.specs.Blocks.{block_admits}
use Rattle.notes.specs.Constraints.{list_admits_option}
use Rattle.notes.specs.Countries.{country_same}
use Rattle.texts.specs.Few.{listed}
use Rattle.notes.specs.Windows.{window_admits}
use Rattle.notes.proofs.context.admitting.ContextConstraint.admits.Goals as goal

pub returns : goal.returns
unfolding list_admits_option
returns c =
    let self = c.args.self.now in
    let v = c.args.v.now in
    let times : c.list_admits.result ≡ list_admits_option window_admits (listed self.windows) (Some v.instant.civil) =
    c.list_admits.ensures.offered ∙ ap (λ xs. list_admits_option (λ w i. window_admits w i.civil) xs (Some v.instant)) c.as_slice.ensures in
    let blocks = c.list_admits-2.ensures.offered ∙ (λ i. list_admits_option block_admits (c.as_slice-2.ensures i) (c.as_ref.ensures.value i)) in
    let countries = c.list_admits-3.ensures.offered ∙ (λ i. list_admits_option country_same (c.as_slice-3.ensures i) (c.as_ref-2.ensures.value i)) in
    λ i. times i && (blocks i && countries i)
