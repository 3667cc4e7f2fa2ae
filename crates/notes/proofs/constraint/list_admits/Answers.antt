use Rattle.std.proofs.Common.{◌≡◌, Bool, List, Option, ◌||◌, sym, ap, ◌∙◌}
use Rattle.std.specs.Option.{option_copied}
use Rattle.texts.proofs.Searches.{none_is}
use Rattle.notes.specs.Constraints.{offered as marked_value, list_admits, list_admits_option}
use Rattle.notes.specs.ConstraintsLemmas.{offered_admits}
use Rattle.notes.proofs.constraint.list_admits.Goals as goal

-- the answer for an optional value is that for a value beside a mark
both : {X V : Type 0} (admits : X → V → Bool) (xs : List X) (v : Option V) (b : Bool) → b ≡ list_admits_option admits xs v
    → record { offered : b ≡ list_admits_option admits xs v; marked : (there : Bool) (x : V) → v ≡ marked_value there x → b ≡ list_admits admits xs there x }
both admits xs v b e = record {
  offered = e;
  marked = λ there x same. e ∙ ap (list_admits_option admits xs) same ∙ offered_admits admits xs there x;
}

pub returns-in-Some : goal.returns-in-Some
unfolding list_admits_option
returns-in-Some g c =
    let admits = g.C.Constraint.admitted in
    let empty = c.is_empty.ensures ∙ none_is c.args.items.now in
    both admits c.args.items.now (option_copied c.args.v) _
    ((λ i. empty i || c.one_admits.ensures i) ∙ ap (λ v. list_admits_option admits c.args.items.now (option_copied v)) (sym c.in-Some.is))

pub returns-in-None : goal.returns-in-None
unfolding list_admits_option
returns-in-None g c =
    let admits = g.C.Constraint.admitted in
    both admits c.args.items.now (option_copied c.args.v) _
    (c.is_empty-in-None.ensures ∙ none_is c.args.items.now ∙ ap (λ v. list_admits_option admits c.args.items.now (option_copied v)) (sym c.in-None.is))
