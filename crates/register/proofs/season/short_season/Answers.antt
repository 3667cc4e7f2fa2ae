use Rattle.std.proofs.Common.{List, [], ◌∷◌, vec_len}
use Rattle.texts.specs.TextValues.{text_of}
use Rattle.register.specs.Answers.{Opening, add, withdraw, link, judge, done, decided}
use Rattle.register.specs.Season.{Met, Through}
use Rattle.register.specs.Tables.{tables}
use Rattle.register.proofs.season.short_season.Goals as goal

-- the season is made of what the calls ensure
pub returns : goal.returns
returns g c =
    let o : Opening = record { home = text_of c.args.home; rows = vec_len c.args.rows; targets = vec_len c.args.targets } in
    let q = c.args.request.now in
    let pairs = g.L.MemberList.pairs c.args.members.now in
    let two : List Met =
    record { call = link 3 1; answer = done c.link-linked.result } ∷ (record { call = add 1 9 c.args.note.now; answer = done c.add-added.result } ∷ []) in
    let met : Through o two (tables c.link-linked.new.self) =
    (tables c.add-added.new.self, (tables c.open-register.result, c.open-register.ensures.opened, c.add-added.ensures), c.link-linked.ensures) in
    let four : List Met =
    record { call = withdraw 1 9; answer = done c.withdraw-withdrawn.result } ∷ (record { call = judge q pairs; answer = decided c.judge-first.result } ∷ two) in
    record {
      first = (c.judge-first.ensures.season o two met).0.0;
      second = (c.judge-second.ensures.season o four (tables c.link-linked.new.self, (tables c.link-linked.new.self, met, c.judge-first.ensures.answer), c.withdraw-withdrawn.ensures)).0.0;
    }
