-- A name is found among all names. Assumes nothing.
use Rattle.std.proofs.Common.{◌≡◌, ℕ, Bool, true, false, cond, List, [], ◌∷◌, Some, None, Option, find, ok_or, refl, sym, rules}
use Rattle.std.specs.Option.{option_map}
use Rattle.std.specs.Str.{bytes_eq}
use Rattle.std.proofs.lemmas.Slice.Eq.{bytes_eq-Decides}
use Rattle.journal.specs.declared.name.CallName.{CallName}
use Rattle.journal.specs.declared.name.UnknownName.{UnknownName}
use Rattle.journal.specs.declared.name.TheConstants.{ALL}
use Rattle.journal.specs.Names.{spelling, NameOf}

missed : (test : CallName → Bool) (name : CallName) → find test ALL ≡ None → test name ≡ false
missed test name e = search rules

hit : {X : Type 0} (test : X → Bool) (xs : List X) (x : X) → find test xs ≡ Some x → test x ≡ true
hit test [] x e = cc
hit test (y ∷ xs) x e =
    elim (test y) as (λ t. test y ≡ t → cond t (Some y) (find test xs) ≡ Some x → test x ≡ true) [
      | true ↦ λ yes here. let same : y ≡ x = cc in rw same at yes
      | false ↦ λ no later. hit test xs x later
    ] refl e

pub name_of : (word : List ℕ) (o : Option CallName) (u : UnknownName) → option_map (λ name. name) o ≡ find (λ name. bytes_eq (spelling name) word) ALL → NameOf word (ok_or o u)
name_of word (Some name) u e = sym ((bytes_eq-Decides (spelling name) word).0 (hit (λ name. bytes_eq (spelling name) word) ALL name (sym e)))
name_of word None u e = λ name same.
    let yes = (bytes_eq-Decides (spelling name) word).1 (sym same) in
    let no = missed (λ name. bytes_eq (spelling name) word) name (sym e) in
    cc
