use Rattle.std.proofs.Common.{sym, refl, ap, ◌∙◌, subst}
use Rattle.std.proofs.lemmas.List.Quantifiers.{position-Some}
use Rattle.std.proofs.lemmas.List.Folds.{list_any_at}
use Rattle.texts.specs.TextValues.{text_of}
use Rattle.members.specs.Leavers.{no_leaver, is_leaver, OnceEach, without_noted}
use Rattle.members.proofs.Counts.{no_place}
use Rattle.members.proofs.Noting.{once_cleared, regained_cleared, regained_known}
use Rattle.members.proofs.leavers.LeaversLayer.readmit.Goals as goal

pub invariant_of-self : goal.invariant_of-self
invariant_of-self g c =
    let self = c.args.self.now in
    let found = position-Some _ self.table.entries _ no_leaver (sym c.in-Some.ensures) in
    record { once = subst OnceEach (sym c.clear.ensures) (once_cleared self.table.entries _ found.0 _ found.1 self.once) }

pub returns-in-Some : goal.returns-in-Some
returns-in-Some g c =
    let self = c.args.self.now in
    let below = g.L.MemberList.pairs self.below in
    let i = text_of c.args.identity.now in
    let found = position-Some _ self.table.entries _ no_leaver (sym c.in-Some.ensures) in
    let there = list_any_at (is_leaver i) self.table.entries _ no_leaver found.0 found.1 in
    record {
      below = refl;
      noted = rw there (c.in-Some.k, found.0, found.1, c.clear.ensures);
      meaning = λ j s. ap (λ l. without_noted l below j s) c.clear.ensures ∙ regained_cleared self.table.entries _ found.0 _ found.1 self.once below j s;
    }

pub returns-in_default : goal.returns-in_default
returns-in_default g c =
    let self = c.args.self.now in
    let away = no_place (is_leaver (text_of c.args.identity.now)) self.table.entries (sym c.find.ensures ∙ c.in_default.is) in
    record {
      below = refl;
      noted = rw away refl;
      meaning = regained_known self.table.entries (g.L.MemberList.pairs self.below) (text_of c.args.identity.now) away;
    }
