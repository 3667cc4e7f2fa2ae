use Rattle.std.proofs.Common.{Ok, sym, ap, ◌∙◌, arith}
use Rattle.std.proofs.lemmas.Result.{err_from_is_err_and}
use Rattle.notes.specs.Rules.{rule_lawful}
use Rattle.register.specs.Tables.{tables, Holding}
use Rattle.register.proofs.Calls.{cause_is, found_inside, add_taken, add_full, add_placed}
use Rattle.register.proofs.register.Register.add.Goals as goal

pub returns-then-has_rule : goal.returns-then-has_rule
returns-then-has_rule c =
    rw c.into.ensures (add_taken (tables c.args.self.now) c.args.policy c.args.number c.in_ok-check.ensures c.args.note.now _ c.in-Ok.ensures.1 (sym c.if-has_rule.ensures))

pub returns-in_err-i : goal.returns-in_err-i
returns-in_err-i c =
    let told = err_from_is_err_and c.from_residual-in_err-i.result c.from_residual-in_err-i.ensures.1 in
    let full = c.in_err-i.ensures.ok_part in
    rw (told.1, told.2, cause_is _ _ _ c.in_err-i.ensures.value full)
    (add_full (tables c.args.self.now) c.args.policy c.args.number c.in_ok-check.ensures c.args.note.now _ c.in-Ok.ensures.1 (sym c.if-has_rule.ensures) (sym c.find_free.ensures ∙ full))

pub index_mut-requires : goal.index_mut-requires
index_mut-requires c =
    omega (arith, found_inside (tables c.args.self.now) _ _ (sym c.find_free.ensures ∙ c.in_ok-i.ensures.ok_part), c.args.self.now.rows.ok.0)

pub returns : goal.returns
returns c =
    let t = tables c.args.self.now in
    let rule = c.in-Ok.rule in
    let read = c.in-Ok.ensures in
    let row = c.new.ensures in
    let holds : Holding c.args.policy c.args.number c.args.note.now c.new.result = record {
      policy = ap (λ m. m.policy) row.name;
      number = ap (λ m. m.number) row.name;
      note_is = row.note ∙ read.0;
      rule_is = read.1 ∙ ap Ok (sym row.value);
      lawful = ap rule_lawful row.value ∙ rule.lawful;
    } in
    rw c.holding.ensures
    (add_placed t c.args.policy c.args.number c.in_ok-check.ensures c.args.note.now _ read.1 (sym c.if-has_rule.ensures) c.in_ok-i.i c.new.result (sym c.find_free.ensures ∙ c.in_ok-i.ensures.ok_part) holds)
