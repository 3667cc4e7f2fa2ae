use Rattle.std.proofs.Common.{◌≡◌, false, eqb, is_ok, count_by, sym, refl, ap, ◌∙◌, subst, arith, rules}
use Rattle.std.proofs.lemmas.Bool.{ne_eqb, eq-eqb, not-true}
use Rattle.std.proofs.lemmas.List.Quantifiers.{position-Some}
use Rattle.texts.specs.TextValues.{text_of}
use Rattle.members.specs.Leavers.{no_leaver, taken, OnceEach, without_noted}
use Rattle.members.proofs.Counts.{all_pass, one_fails}
use Rattle.members.proofs.Noting.{once_entered, lost_entered, lost_known}
use Rattle.members.proofs.RowLaws.{text_short}
use Rattle.members.proofs.leavers.LeaversLayer.note.Goals as goal

pub invariant_of-self : goal.invariant_of-self
invariant_of-self g c =
    let self = c.args.self.now in
    let found = position-Some _ self.table.entries _ no_leaver (sym c.find_free.ensures ∙ c.in_ok-k.ensures.ok_part) in
    let once = once_entered self.table.entries _ found.0 _ (text_short c.args.identity.now) found.1 (sym c.if-has.ensures) self.once in
    record { once = subst OnceEach (sym c.enter.ensures) once }

pub returns-then-has-clause-meaning : goal.returns-then-has-clause-meaning
returns-then-has-clause-meaning g c =
    let self = c.args.self.now in
    lost_known self.table.entries (g.L.MemberList.pairs self.below) (text_of c.args.identity.now) (sym c.if-has.ensures)

pub returns-in_err-k-clause-noted : goal.returns-in_err-k-clause-noted
returns-in_err-k-clause-noted g c =
    let full = all_pass taken c.args.self.now.table.entries (sym c.find_free.ensures ∙ c.in_err-k.ensures.ok_part) in
    let refused : is_ok c.from_residual.result ≡ false = search rules in
    let all : count_by taken c.args.self.now.table.entries ≡ 16 = omega arith in
    rw (sym c.if-has.ensures, eq-eqb _ 16 all) (refused, refl)

pub returns : goal.returns
returns g c =
    let xs = c.args.self.now.table.entries in
    let below = g.L.MemberList.pairs c.args.self.now.below in
    let found = position-Some _ xs _ no_leaver (sym c.find_free.ensures ∙ c.in_ok-k.ensures.ok_part) in
    let room : eqb (count_by taken xs) 16 ≡ false = ne_eqb _ 16 (λ e. omega (arith, e, one_fails taken xs _ no_leaver found.0 found.1)) in
    record {
      below = refl;
      noted = rw (sym c.if-has.ensures, room) (refl, (c.in_ok-k.k, found.0, not-true _ found.1, c.enter.ensures));
      meaning = λ j s. ap (λ l. without_noted l below j s) c.enter.ensures ∙ lost_entered xs _ found.0 _ (text_short c.args.identity.now) found.1 below j s;
    }
