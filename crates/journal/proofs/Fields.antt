-- Where no word stands that reads as its kind. Assumes nothing.
use Rattle.std.proofs.Common.{◌≡◌, ℕ, List, Ok, Result, Some, None, Option, ok_or, MatchOption, subst, Bor, rules}
use Rattle.journal.specs.declared.unreadable.Field.{Field}
use Rattle.journal.specs.declared.unreadable.Unreadable.{Unreadable}
use Rattle.journal.specs.declared.unreadable.Unreadable.TheVariants.{Other}
use Rattle.journal.specs.Fields.{fault, Took, TookWord}

-- the next word is read, or reads as nothing
pub read :
    {X : Type 0} (reads : List ℕ → X → Type 0) (field : Field) (before after : List (List ℕ)) (text : Bor (List ℕ)) (o : Option X) (r : Result X Unreadable)
    → TookWord field before (Ok text) after → r ≡ ok_or o (Other field) → MatchOption o ((x : X) → reads text.now x → ⊥) (λ x. reads text.now x)
    → Took reads field before r after
read reads field before after text (Some x) r taken e h = rw e (text.now, taken.0, h)
read {X} reads field before after text None r taken e never =
    let is = taken.0 in
    let told : Other field ≡ fault field before = search rules in
    rw e (told, λ word rest x s h. let same : word ≡ text.now = cc in never x (subst (λ w. reads w x) same h))
