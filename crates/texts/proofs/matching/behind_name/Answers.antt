use Rattle.std.proofs.Common.{[], ◌∷◌, sym, subst}
use Rattle.texts.proofs.Fronts.{Behind, behind_both}
use Rattle.texts.proofs.Prefixes.{begins_less}
use Rattle.texts.proofs.matching.behind_name.Goals as goal

pub returns : goal.returns
returns c =
    behind_both (47 ∷ 47 ∷ []) c.args.name.now c.args.text.now c.in_ok-rest.rest.now c.behind-2.result c.in_ok-rest.ensures c.behind-2.ensures

pub returns-in_err-rest : goal.returns-in_err-rest
returns-in_err-rest c =
    subst (Behind (47 ∷ 47 ∷ c.args.name.now) c.args.text.now) (sym c.from_residual.ensures)
    (begins_less (47 ∷ 47 ∷ []) c.args.name.now c.args.text.now c.in_err-rest.ensures)
