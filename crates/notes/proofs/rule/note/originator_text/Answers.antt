use Rattle.std.proofs.Common.{◌≡◌, ℕ, ◌<◌, ◌≤◌, List, length, get_or, take, drop, Ok, Some, None, Option, ap, ◌∙◌, subst, arith, Bor, MatchOption, slice_index_or}
use Rattle.std.proofs.lemmas.List.{get_or-map, length-map}
use Rattle.texts.specs.Few.{listed}
use Rattle.notes.specs.Notes.{TextOf, NoText}
use Rattle.notes.specs.Originators.{originator_of}
use Rattle.notes.specs.OriginatorsLemmas.{text_place}
use Rattle.notes.specs.Rules.{note_reads, rule_of}
use Rattle.notes.specs.declared.originator.Entry.TheVariants.{All}
use Rattle.notes.specs.declared.originator.Originator.{Originator}
use Rattle.notes.specs.declared.rule.RuleParts.{RuleParts}
use Rattle.notes.proofs.rule.note.originator_text.Goals as goal

-- a text of the parts is a text of the note's rule
told : (note : List ℕ) (p : RuleParts) (i : ℕ) → note_reads note ≡ Ok (rule_of note p) → (r : Option (Bor (List ℕ)))
    → MatchOption r (length (listed p.originators) ≤ i) (λ t. (i < length (listed p.originators)) × ((o : Originator) → (originator_of note (slice_index_or (listed p.originators) i o)).text ≡ t.now))
    → MatchOption r (NoText note i) (λ t. TextOf note i t.now)
told note p i read None none = (rule_of note p, read, omega (arith, length-map (listed p.originators) (originator_of note)))
told note p i read (Some t) (there, says) =
    let items = listed p.originators in
    let spare : Originator = record { entry = All } in
    let spot = text_place note (get_or items i spare).entry in (
      rule_of note p,
      spot.0,
      read,
      omega (arith, length-map items (originator_of note)),
      (λ d. ap (λ v. v.text) (get_or-map (originator_of note) items i spare d there) ∙ says spare),
      subst (λ x. x ≡ take (length x) (drop spot.0 note)) (says spare) spot.1,
    )

pub returns : goal.returns
returns c = told c.args.note.now c.in_ok-parts.parts c.args.i c.in_ok-parts.ensures c.text_at.result c.text_at.ensures
