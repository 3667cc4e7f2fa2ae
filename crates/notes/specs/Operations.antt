-- Operations, and the sets of them that rules have. Assumes nothing.
use Rattle.std.specs.Prelude.{ℕ, Bool}
use Rattle.notes.specs.Sets.{member}
use Rattle.notes.specs.declared.operation.Operation.{Operation}
use Rattle.notes.specs.declared.operation.Operation.TheVariants.{Create, Retrieve, Update, Delete, Discover, Notify}

-- the place of an operation in a set
abbrev pub operation_number : Operation → ℕ
operation_number Create = 0
operation_number Retrieve = 1
operation_number Update = 2
operation_number Delete = 3
operation_number Discover = 4
operation_number Notify = 5

-- the set has the operation
abbrev pub has_operation : ℕ → Operation → Bool
has_operation operations o = member 6 operations (operation_number o)
