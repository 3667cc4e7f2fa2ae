use Rattle.std.proofs.Common.{◌≡◌, ◌++◌, map, take, drop}
use Rattle.register.specs.Entries.{freed}
use Rattle.register.proofs.register.opening.free_rows.Given as goal

abbrev pub invariant-loop-row : goal.invariant-loop-row
invariant-loop-row l = l.rows ≡ map freed (take l.row-index l.initial.rows) ++ drop l.row-index l.initial.rows
