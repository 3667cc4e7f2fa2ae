-- How what a fault tells is written. Assumes nothing.
use Rattle.std.specs.Prelude.{ℕ, List, ◌++◌, codes}
use Rattle.std.specs.Fmt.{decimal}
use Rattle.bits.specs.declared.fault.Layer.{Layer}
use Rattle.bits.specs.declared.fault.Layer.TheVariants.{Bits, Note, Register, Enforcement}
use Rattle.bits.specs.declared.fault.Report.{Report}

abbrev pub layer_name : Layer → List ℕ
layer_name Bits = codes "bits"
layer_name Note = codes "note"
layer_name Register = codes "register"
layer_name Enforcement = codes "enforcement"

abbrev pub report_text : Report → List ℕ
report_text r = decimal r.number ++ (codes " at " ++ (decimal r.place ++ (codes " " ++ layer_name r.layer)))
