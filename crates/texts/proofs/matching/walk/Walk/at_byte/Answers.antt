use Rattle.std.proofs.Common.{◌-◌, ◌∷◌, length, take, drop, sym, ap, ◌∙◌, subst, rules}
use Rattle.std.proofs.lemmas.Slice.{first_rest}
use Rattle.texts.specs.declared.matching.walk.Star.{Star}
use Rattle.texts.proofs.Walking.{Onward, fails_at, fails_behind, at_slash, at_other}
use Rattle.texts.proofs.matching.walk.Walk.at_byte.Goals as goal
use Rattle.texts.proofs.matching.walk.Walk.at_byte.Goals.{then-b-eq-SLASH, else-b-eq-SLASH}

pub retry-requires : goal.retry-requires
retry-requires c =
    fails_behind c.args.self.pattern.now c.args.self.text.now c.args.b c.args.pattern.now c.requires.here c.requires.plain (search rules)

pub retry-requires-then-b-c : goal.retry-requires-then-b-c
retry-requires-then-b-c c =
    fails_at c.args.self.pattern.now c.args.self.text.now c.args.b c.args.pattern.now c.requires.here c.requires.plain _ _
    (first_rest c.args.self.text.now 0 (search rules)) c.if-b-c.true

pub returns-after-b-eq-SLASH : goal.returns-after-b-eq-SLASH
returns-after-b-eq-SLASH c =
    let self = c.args.self in
    let here = first_rest self.text.now 0 (search rules) ∙ ap (λ b. b ∷ take (length self.text.now - 1) (drop 1 self.text.now)) (sym c.if-b-c.false) in
    let P = λ (s : Star). Onward self.pattern.now self.text.now self.star c.args.pattern.now (take (length self.text.now - 1) (drop 1 self.text.now)) s in
    elim c.if-b-eq-SLASH.branch [
      | then-b-eq-SLASH w ↦ subst P (sym w.star-is) (at_slash _ _ c.args.b _ _ c.requires.here here c.requires.plain self.star w.settled-star.result c.requires.sound w.if-b-eq-SLASH.true w.settled-star.ensures)
      | else-b-eq-SLASH w ↦ subst P (sym w.star-is) (at_other _ _ c.args.b _ _ c.requires.here here c.requires.plain self.star c.requires.sound w.if-b-eq-SLASH.false)
    ]
