use Rattle.std.proofs.Common.{◌≡◌, true, false, ◌∷◌, ◌++◌, sym, ap, ◌∙◌}
use Rattle.texts.specs.Matching.{begins}
use Rattle.texts.specs.Texts.{slash_then}
use Rattle.texts.specs.TextValues.{text_of}
use Rattle.texts.proofs.Fronts.{matches_rest, matches_none}
use Rattle.texts.proofs.matching.pattern_matches.Goals as goal

pub returns-in-Some : goal.returns-in-Some
returns-in-Some c =
    let home = c.args.home.now in
    let relative : slash_then (slash_then (λ _. true)) c.args.pattern.now ≡ false = sym c.if-is_absolute.ensures in
    let there = c.in-Some.ensures ∙ ap (λ d. 47 ∷ 47 ∷ (d ++ c.in-Some.rest.now)) c.as_bytes.ensures in
    c.matches-in-Some.ensures ∙ matches_rest (text_of home) c.args.pattern.now c.args.text.now home.lawful relative c.in-Some.rest.now there

pub returns-in-None : goal.returns-in-None
returns-in-None c =
    let home = c.args.home.now in
    let relative : slash_then (slash_then (λ _. true)) c.args.pattern.now ≡ false = sym c.if-is_absolute.ensures in
    let missing = ap (λ d. begins (47 ∷ 47 ∷ d) c.args.text.now) (sym c.as_bytes.ensures) ∙ c.in-None.ensures in
    matches_none (text_of home) c.args.pattern.now c.args.text.now home.lawful relative missing
