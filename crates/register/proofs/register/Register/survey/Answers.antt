use Rattle.std.proofs.Common.{◌+◌, ◌≤◌, length, take, None, vec_items, sym, refl, ap, ◌∙◌, subst, arith, length-take}
use Rattle.std.proofs.lemmas.List.{take_all}
use Rattle.texts.specs.TextValues.{text_of}
use Rattle.admission.specs.Requests.{request_of}
use Rattle.register.specs.Answers.{Decision, verdict_given}
use Rattle.register.specs.Requests.{passes}
use Rattle.register.specs.Tables.{tables, is_linked}
use Rattle.register.specs.Entries.{held_passes}
use Rattle.register.specs.Verdicts.{with_one_more}
use Rattle.register.specs.declared.row.RuleRow.{RuleRow}
use Rattle.register.specs.declared.rule_name.RuleName.{RuleName}
use Rattle.register.specs.declared.verdict.Verdict.{Verdict}
use Rattle.register.proofs.Surveys.{among, verdict_few, passed_over, passed_with}
use Rattle.register.proofs.register.Register.survey.Goals as goal
use Rattle.register.proofs.register.Register.survey.Goals.{in-Some+then-passes, in-Some+else-passes, in_default}

pub loop-row-init : goal.loop-row-init
loop-row-init g c = (c.used_rows-row-items.ensures, refl)

pub with-verdict-requires : goal.with-verdict-requires
with-verdict-requires g c =
    let xs = c.used_rows-row-items.result.now in
    let few : length xs ≤ 256 = omega (arith, ap length c.used_rows-row-items.ensures, length-take 256 (vec_items c.args.self.now.rows)) in
    let front : length (take c.loop-row.row-index xs) ≤ 256 = omega (arith, length-take c.loop-row.row-index xs) in
    omega (arith, verdict_few (passes (text_of c.args.self.now.home) (is_linked (tables c.args.self.now)) c.args.target (g.L.MemberList.pairs c.args.members.now) (request_of c.args.request.now)) (take c.loop-row.row-index xs) c.loop-row.verdict front c.loop-row.invariant.1)

pub loop-row-preserved : goal.loop-row-preserved
loop-row-preserved g c =
    let f = passes (text_of c.args.self.now.home) (is_linked (tables c.args.self.now)) c.args.target (g.L.MemberList.pairs c.args.members.now) (request_of c.args.request.now) in
    let xs = c.used_rows-row-items.result.now in
    let i = c.loop-row.row-index in
    let v = c.loop-row.verdict in
    let free : RuleRow = record { held = None } in
    let P : Verdict → Type 0 = λ x. Decision (among (take (i + 1) xs)) f (verdict_given x) in (
      c.used_rows-row-items.ensures,
      elim c.match-held.branch [
        | in-Some+then-passes w ↦
            subst P (sym (w.verdict-is ∙ w.with-verdict.ensures ∙ ap (λ (m : RuleName). with_one_more v m.policy m.number) w.name.ensures))
            (passed_with f xs i free c.loop-row-test.true w.in-Some.rule.now w.in-Some.ensures (sym w.if-passes.ensures) v c.loop-row.invariant.1)
        | in-Some+else-passes w ↦
            subst P (sym w.verdict-is) (passed_over f xs i free c.loop-row-test.true v (ap (held_passes f) w.in-Some.ensures ∙ sym w.if-passes.ensures) c.loop-row.invariant.1)
        | in_default w ↦ subst P (sym w.verdict-is) (passed_over f xs i free c.loop-row-test.true v (ap (held_passes f) w.in_default.ensures) c.loop-row.invariant.1)
      ],
    )

pub returns : goal.returns
returns g c =
    subst (λ l. Decision (among l) (passes (text_of c.args.self.now.home) (is_linked (tables c.args.self.now)) c.args.target (g.L.MemberList.pairs c.args.members.now) (request_of c.args.request.now)) (verdict_given c.loop-row.verdict))
    (take_all _ _ c.loop-row-test.false ∙ c.used_rows-row-items.ensures) c.loop-row.invariant.1
