use Rattle.std.proofs.Common.{◌≡◌, sym, ap, ◌∙◌, rules, tests}
use Rattle.std.proofs.lemmas.Iterator.{YieldsList-from_slice}
use Rattle.std.proofs.lemmas.Iterator.Search.{all_from_yields_List}
use Rattle.std.specs.List.{list_any, list_all}
use Rattle.std.proofs.lemmas.List.Folds.{list_all-map}
use Rattle.texts.specs.TextValues.{text_of}
use Rattle.texts.specs.Few.{listed}
use Rattle.notes.specs.Originators.{OriginatorValue, originator_of}
use Rattle.admission.specs.Covering.{originator_covers}
use Rattle.admission.specs.Views.{rule_in}
use Rattle.admission.proofs.view.RuleView.originators_cover.Goals as goal

pub returns : goal.returns
returns c =
    let covered = λ (p : OriginatorValue). list_any (λ o. originator_covers (text_of c.args.home.now) o p) (rule_in c.args.self.now).originators in
    let there = originator_of c.args.other.now.note.now in
    let one : c.all.result ≡ list_all (λ p. covered (there p)) c.originators.result.now =
    all_from_yields_List (λ p. covered (there p)) _ _ _ c.all.ensures.ran (YieldsList-from_slice c.originators.result.now cc) (λ x b q k. search (rules, tests)) in
    one ∙ ap (list_all (λ p. covered (there p))) c.originators.ensures ∙ sym (list_all-map covered there (listed c.args.other.now.parts.now.originators))
