-- How sides and operations are written. Assumes nothing.
use Rattle.std.specs.Prelude.{ℕ, List, codes}
use Rattle.notes.specs.declared.operation.Operation.{Operation}
use Rattle.notes.specs.declared.operation.Operation.TheVariants.{Create, Retrieve, Update, Delete, Discover, Notify}
use Rattle.notes.specs.declared.rule.Side.{Side}
use Rattle.notes.specs.declared.rule.Side.TheVariants.{Privileges, SelfPrivileges}

abbrev pub operation_name : Operation → List ℕ
operation_name Create = codes "create"
operation_name Retrieve = codes "retrieve"
operation_name Update = codes "update"
operation_name Delete = codes "delete"
operation_name Discover = codes "discover"
operation_name Notify = codes "notify"

abbrev pub side_name : Side → List ℕ
side_name Privileges = codes "privileges"
side_name SelfPrivileges = codes "selfPrivileges"
