-- The faults of notes. Assumes nothing.
use Rattle.std.specs.Prelude.{ℕ}
use Rattle.bits.specs.Faults.{report as bit_report}
use Rattle.bits.specs.declared.fault.Report.{Report}
use Rattle.bits.specs.declared.fault.Layer.TheVariants.{Note}
use Rattle.notes.specs.declared.fault.NoteFault.{NoteFault}
use Rattle.notes.specs.declared.fault.NoteFault.TheVariants.{Ended, Limit, Text, EmptySet, Prefix, Letter, Excess}

-- the field that begins at p breaks the rule of the fault n
abbrev pub broken : ℕ → ℕ → Report
broken n p = record { number = n; place = p; layer = Note }

abbrev pub report : NoteFault → Report
report (Ended e) = bit_report e
report (Limit p) = broken 2 p
report (Text p) = broken 3 p
report (EmptySet p) = broken 4 p
report (Prefix p) = broken 5 p
report (Letter p) = broken 6 p
report (Excess p) = broken 7 p
