-- Lists of constraints, of any kind. Assumes nothing.
use Rattle.std.specs.Prelude.{Bool, true, false, not, ◌&&◌, ◌||◌, List, Some, None, Option}
use Rattle.std.specs.List.{list_any, list_all}
use Rattle.texts.specs.Lists.{none}

-- the list is empty, or the value is there and one item admits it
unfoldable pub list_admits : {X V : Type 0} → (X → V → Bool) → List X → Bool → V → Bool
list_admits admits xs there v = none xs || (there && list_any (λ x. admits x v) xs)

-- the same of a value that may be missing: a missing value is admitted by the empty list only
unfoldable pub list_admits_option : {X V : Type 0} → (X → V → Bool) → List X → Option V → Bool
list_admits_option admits xs None = none xs
list_admits_option admits xs (Some v) = none xs || list_any (λ x. admits x v) xs

-- a value that is lent beside a mark: the mark says whether it is there
abbrev pub offered : {V : Type 0} → Bool → V → Option V
offered true v = Some v
offered false v = None

-- this list is empty, or the other is not and each item there is covered by one here
unfoldable pub list_covers : {X : Type 0} → (X → X → Bool) → List X → List X → Bool
list_covers covers xs ys = none xs || (not (none ys) && list_all (λ y. list_any (λ x. covers x y) xs) ys)
