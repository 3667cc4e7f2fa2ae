-- Sides compared. Assumes nothing.
use Rattle.std.proofs.Common.{◌≡◌, refl}
use denote.Enum.Bare.{sameb}
use Rattle.notes.specs.Rules.{same_side}
use Rattle.notes.specs.contracts.rule.Side.{the_type}
use Rattle.notes.specs.declared.rule.Side.{Side}
use Rattle.notes.specs.declared.rule.Side.TheVariants.{Privileges, SelfPrivileges}

-- what `==` of two sides tells
pub side_eq : (a b : Side) → sameb the_type a b ≡ same_side a b
side_eq Privileges Privileges = refl
side_eq Privileges SelfPrivileges = refl
side_eq SelfPrivileges Privileges = refl
side_eq SelfPrivileges SelfPrivileges = refl
