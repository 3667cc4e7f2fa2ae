use Rattle.std.proofs.Common.{[], ◌∷◌, sym, ap, ◌∙◌}
use Rattle.texts.specs.Matching.{in_domain}
use Rattle.texts.proofs.Fronts.{behind_there}
use Rattle.texts.proofs.Prefixes.{begins_append, begins_less}
use Rattle.texts.proofs.matching.domain_matches.Goals as goal

pub returns-in-Some : goal.returns-in-Some
returns-in-Some c =
    let domain = c.args.domain.now in
    let rest = c.in-Some.rest.now in
    c.is_some.ensures ∙ behind_there (47 ∷ []) rest c.behind.result c.behind.ensures
    ∙ sym (ap (in_domain domain) c.in-Some.ensures ∙ begins_append (47 ∷ 47 ∷ domain) (47 ∷ []) rest)

pub returns-in-None : goal.returns-in-None
returns-in-None c = sym (begins_less (47 ∷ 47 ∷ c.args.domain.now) (47 ∷ []) c.args.text.now c.in-None.ensures)
