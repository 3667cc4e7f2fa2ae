-- Lists of constraints. Assumes nothing.
use Rattle.std.specs.Prelude.{◌≡◌, Bool, true, false, not, ◌&&◌, ◌||◌, List, [], ◌∷◌, map, Some, None, Option}
use Rattle.std.specs.List.{list_any, list_all}
use Rattle.std.proofs.Math.Path.{refl}
use Rattle.std.proofs.Common.{sym, ap, ◌∙◌, ⊎_elim}
use borrow.Author.Tests.{clash}
use Rattle.texts.specs.Lists.{none}
use Rattle.notes.specs.Constraints.{offered, list_admits, list_admits_option, list_covers}
use Rattle.texts.proofs.Bools.{both_true, or_true, or_left, or_right}

-- what the mark says of a value that is lent beside it
pub offered_admits :
    {X V : Type 0} (admits : X → V → Bool) (xs : List X) (there : Bool) (v : V)
    → list_admits_option admits xs (offered there v) ≡ list_admits admits xs there v
unfolding list_admits list_admits_option
offered_admits admits xs true v = refl
offered_admits admits [] false v = refl
offered_admits admits (x ∷ xs) false v = refl

module _ {X V : Type 0} (admits : X → V → Bool) (covers : X → X → Bool)
    (sound : (a b : X) (v : V) → covers a b ≡ true → admits b v ≡ true → admits a v ≡ true) where
  pub some_sound : (xs : List X) (y : X) (v : V) → list_any (λ x. covers x y) xs ≡ true → admits y v ≡ true → list_any (λ x. admits x v) xs ≡ true
  some_sound [] y v e a = e
  some_sound (x ∷ xs) y v e a =
      ⊎_elim (λ c. or_left _ _ (sound x y v c a)) (λ c. or_right _ _ (some_sound xs y v c a)) (or_true _ _ e)

  pub each_sound : (xs ys : List X) (v : V) → list_all (λ y. list_any (λ x. covers x y) xs) ys ≡ true → list_any (λ y. admits y v) ys ≡ true → list_any (λ x. admits x v) xs ≡ true
  each_sound xs [] v e a = absurd (clash a)
  each_sound xs (y ∷ ys) v e a =
      let h = both_true _ _ e in ⊎_elim (λ c. some_sound xs y v h.0 c) (λ c. each_sound xs ys v h.1 c) (or_true _ _ a)

  pub list_sound_option : (xs ys : List X) (v : Option V) → list_covers covers xs ys ≡ true → list_admits_option admits ys v ≡ true → list_admits_option admits xs v ≡ true
  unfolding list_covers list_admits_option
  list_sound_option [] ys None c a = refl
  list_sound_option [] ys (Some v) c a = refl
  list_sound_option (x ∷ xs) [] v c a = absurd (clash c)
  list_sound_option (x ∷ xs) (y ∷ ys) None c a = absurd (clash a)
  list_sound_option (x ∷ xs) (y ∷ ys) (Some v) c a = each_sound (x ∷ xs) (y ∷ ys) v c a

  pub list_sound : (xs ys : List X) (there : Bool) (v : V) → list_covers covers xs ys ≡ true → list_admits admits ys there v ≡ true → list_admits admits xs there v ≡ true
  list_sound xs ys there v c a =
      sym (offered_admits admits xs there v) ∙ list_sound_option xs ys (offered there v) c (offered_admits admits ys there v ∙ a)

-- lists of what items stand for
pub some_map : {X Y : Type 0} (p : Y → Bool) (f : X → Y) (xs : List X) → list_any p (map f xs) ≡ list_any (λ x. p (f x)) xs
some_map p f [] = refl
some_map p f (x ∷ xs) = ap (λ b. p (f x) || b) (some_map p f xs)

pub each_map : {X Y : Type 0} (p : Y → Bool) (f : X → Y) (xs : List X) → list_all p (map f xs) ≡ list_all (λ x. p (f x)) xs
each_map p f [] = refl
each_map p f (x ∷ xs) = ap (λ b. p (f x) && b) (each_map p f xs)

none_map : {X Y : Type 0} (f : X → Y) (xs : List X) → none (map f xs) ≡ none xs
none_map f [] = refl
none_map f (x ∷ xs) = refl

pub list_admits_option_map :
    {X Y V : Type 0} (admits : Y → V → Bool) (f : X → Y) (xs : List X) (v : Option V) → list_admits_option admits (map f xs) v ≡ list_admits_option (λ x. admits (f x)) xs v
unfolding list_admits_option
list_admits_option_map admits f xs None = none_map f xs
list_admits_option_map admits f xs (Some v) = λ i. none_map f xs i || some_map (λ y. admits y v) f xs i

pub each_some_map :
    {X Y : Type 0} (covers : Y → Y → Bool) (f g : X → Y) (xs ys : List X)
    → list_all (λ y. list_any (λ x. covers x y) (map f xs)) (map g ys) ≡ list_all (λ y. list_any (λ x. covers (f x) (g y)) xs) ys
each_some_map covers f g xs [] = refl
each_some_map covers f g xs (y ∷ ys) = λ i. some_map (λ x. covers x (g y)) f xs i && each_some_map covers f g xs ys i

pub list_covers_map :
    {X Y : Type 0} (covers : Y → Y → Bool) (f : X → Y) (xs ys : List X) → list_covers covers (map f xs) (map f ys) ≡ list_covers (λ x y. covers (f x) (f y)) xs ys
unfolding list_covers
list_covers_map covers f xs ys = λ i. none_map f xs i || (not (none_map f ys i) && each_some_map covers f f xs ys i)
