use Rattle.std.proofs.Common.{◌≡◌, sym, ap, ◌∙◌, rules, tests}
use Rattle.std.proofs.lemmas.Iterator.{YieldsList-from_slice}
use Rattle.std.proofs.lemmas.Iterator.Search.{any_from_yields_List}
use Rattle.std.specs.List.{list_any}
use Rattle.texts.specs.TextValues.{text_of}
use Rattle.texts.specs.Few.{listed}
use Rattle.notes.specs.Originators.{originator_of}
use Rattle.admission.specs.Admitting.{originator_matches}
use Rattle.admission.proofs.Entries.{any_mapped}
use Rattle.admission.proofs.view.RuleView.is_from.Goals as goal

pub returns : goal.returns
returns g c =
    let matches = originator_matches (text_of c.args.home.now) (g.L.MemberList.pairs c.args.members.now) (text_of c.args.request.now.identity) in
    let shown = originator_of c.args.self.now.note.now in
    let one : c.any.result ≡ list_any (λ o. matches (shown o)) c.originators.result.now =
    any_from_yields_List (λ o. matches (shown o)) _ _ _ c.any.ensures.ran (YieldsList-from_slice c.originators.result.now cc) (λ x b q k. search (rules, tests)) in
    one ∙ ap (list_any (λ o. matches (shown o))) c.originators.ensures ∙ sym (any_mapped matches shown (listed c.args.self.now.parts.now.originators))
