use Rattle.std.proofs.Common.{sym, subst, ◌∙◌, arith}
use Rattle.std.proofs.lemmas.Result.{err_from_is_err_and}
use Rattle.register.specs.Answers.{withdraw, accepted}
use Rattle.register.specs.Tables.{tables, with_row, Served}
use Rattle.register.proofs.Calls.{cause_is, found_inside, withdraw_missing, withdraw_freed}
use Rattle.register.proofs.register.Register.withdraw.Goals as goal

pub returns-in_err-i : goal.returns-in_err-i
returns-in_err-i c =
    let t = tables c.args.self.now in
    let told = err_from_is_err_and c.from_residual-in_err-i.result c.from_residual-in_err-i.ensures.1 in
    let none = c.in_err-i.ensures.ok_part in
    rw (told.1, told.2, cause_is _ _ _ c.in_err-i.ensures.value none) (withdraw_missing t c.args.policy c.args.number c.in_ok-check.ensures (sym c.find_rule.ensures ∙ none))

pub index_mut-requires : goal.index_mut-requires
index_mut-requires c =
    omega (arith, found_inside (tables c.args.self.now) _ _ (sym c.find_rule.ensures ∙ c.in_ok-i.ensures.ok_part), c.args.self.now.rows.ok.0)

pub returns : goal.returns
returns c =
    let t = tables c.args.self.now in
    subst (λ y. Served (withdraw c.args.policy c.args.number) t accepted (with_row t c.in_ok-i.i y)) (sym c.mark_free.ensures)
    (withdraw_freed t c.args.policy c.args.number c.in_ok-check.ensures c.in_ok-i.i c.index_mut.result.now (sym c.find_rule.ensures ∙ c.in_ok-i.ensures.ok_part) c.index_mut.ensures.value)
