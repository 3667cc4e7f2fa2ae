use Rattle.std.proofs.Common.{◌≡◌, true, [], ◌∷◌, ◌++◌, sym, ap, ◌∙◌}
use Rattle.texts.specs.Few.{listed}
use Rattle.texts.specs.TextValues.{text_of}
use Rattle.members.specs.Rows.{listed as pairs_of}
use Rattle.members.specs.Tokens.{with_presented}
use Rattle.members.proofs.Presenting.{gains_nothing, gains_one}
use Rattle.members.proofs.RowLaws.{text_short}
use Rattle.members.proofs.tokens.TokenLayer.present.Goals as goal

pub returns-then-holds-clause-meaning : goal.returns-then-holds-clause-meaning
returns-then-holds-clause-meaning g c =
    let held = listed c.args.self.now.held in
    let i = text_of c.args.identity.now in
    let s = text_of c.args.standing.now in
    let there : pairs_of held i s ≡ true = sym (c.if-holds.ensures ∙ ap (pairs_of held i) c.as_bytes.ensures) in
    gains_nothing held (g.L.MemberList.pairs c.args.self.now.below) i s there

pub returns-clause-meaning : goal.returns-clause-meaning
returns-clause-meaning g c j t =
    let held = listed c.args.self.now.held in
    let below = g.L.MemberList.pairs c.args.self.now.below in
    ap (λ l. with_presented l below j t) (c.in_ok-push.ensures.1 ∙ ap (λ r. held ++ (r ∷ [])) c.new.ensures) ∙ gains_one held below _ _ (text_short c.args.identity.now) (text_short c.args.standing.now) j t
