-- What a refusal tells of the bits. Assumes nothing.
use Rattle.std.specs.Prelude.{◌≡◌, ℕ, ◌≤◌, List, length, take, Err}
use Rattle.bits.specs.Faults.{ended}
use Rattle.bits.specs.declared.fault.Report.{Report}
use Rattle.notes.specs.Rules.{rule_reads}

-- a refusal names the first field that breaks its rule: cut just before the place of the fault, the bits are
-- refused with fault 1 at that same place, as each field before it is right and that field is the next one
abbrev pub FirstBroken : Type 0
FirstBroken = (ds : List ℕ) (e : Report) → rule_reads ds 0 ≡ Err e → (e.place ≤ length ds) × (rule_reads (take e.place ds) 0 ≡ Err (ended e.place))
