use Rattle.std.proofs.Common.{◌≡◌, suc, ◌+◌, rules, arith}
use borrow.Author.Tests.{tests}
use Rattle.std.proofs.lemmas.List.{take_rest}
use Rattle.addresses.proofs.Cuts.{first_window, around_none, around_cut}
use Rattle.addresses.proofs.cut.split_at_gap.Goals as goal

pub returns-in_err-i : goal.returns-in_err-i
returns-in_err-i c =
    let p = c.position.ensures.runs in
    let size : p.0.from.size ≡ 2 = search rules in
    let rest : p.0.from.rest.now ≡ c.args.text.now = search rules in
    let windows = rw (size, rest) at (c.windows.ensures.runs p.0 p.0.seen (omega (arith, size))) in
    let first = first_window p.0 _ _ c.args.text.now c.position.result (λ a r f k. search rules) (λ x b q. search (rules, tests)) windows p.2 in
    rw c.from_residual.ensures (around_none _ (rw (c.in_err-i.was) at first))

pub returns : goal.returns
returns c =
    let p = c.position.ensures.runs in
    let size : p.0.from.size ≡ 2 = search rules in
    let rest : p.0.from.rest.now ≡ c.args.text.now = search rules in
    let windows = rw (size, rest) at (c.windows.ensures.runs p.0 p.0.seen (omega (arith, size))) in
    let first = first_window p.0 _ _ c.args.text.now c.position.result (λ a r f k. search rules) (λ x b q. search (rules, tests)) windows p.2 in
    let two : c.in_ok-i.i + 2 ≡ suc (suc c.in_ok-i.i) = omega arith in
    rw (take_rest, two) (around_cut _ _ (rw (c.in_ok-i.was) at first))
