-- What the fault of the bit layer tells. Assumes nothing.
use Rattle.std.specs.Prelude.{ℕ}
use Rattle.bits.specs.declared.fault.BitFault.{BitFault}
use Rattle.bits.specs.declared.fault.Report.{Report}
use Rattle.bits.specs.declared.fault.Layer.TheVariants.{Bits}

-- fault 1: the field that begins at p does not fit
abbrev pub ended : ℕ → Report
ended p = record { number = 1; place = p; layer = Bits }

abbrev pub report : BitFault → Report
report e = ended e.place
