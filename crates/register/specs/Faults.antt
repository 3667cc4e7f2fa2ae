-- The refusals of the register. Assumes nothing.
use Rattle.std.specs.Prelude.{ℕ, Some, None, Option}
use Rattle.bits.specs.declared.fault.Report.{Report}
use Rattle.bits.specs.declared.fault.Layer.TheVariants.{Register}
use Rattle.notes.specs.Faults.{report as note_report}
use Rattle.register.specs.declared.fault.Cause.{Cause}
use Rattle.register.specs.declared.fault.Cause.TheVariants.{Note, TooHigh, UnknownTarget, Taken, Missing, Full, Instant, Country}
use Rattle.register.specs.declared.fault.RegisterFault.{RegisterFault}
use Rattle.register.specs.declared.rule_name.RuleName.{RuleName}

-- number, place and layer, and the rule that a fault in a note was to become
pub record Refusal : Type 0 where
  pub report : Report
  pub rule : Option RuleName

abbrev pub named : ℕ → ℕ → RuleName
named p n = record { policy = p; number = n }

-- a fault of the register itself
abbrev pub own : ℕ → Report
own n = record { number = n; place = 0; layer = Register }

-- every cause with its number; a note's fault keeps its number, its place and its layer
abbrev pub cause_report : Cause → Report
cause_report (Note e) = note_report e
cause_report TooHigh = own 8
cause_report UnknownTarget = own 9
cause_report Taken = own 10
cause_report Missing = own 11
cause_report Full = own 12
cause_report Instant = own 14
cause_report Country = own 15

abbrev pub refusal_of : RegisterFault → Refusal
refusal_of x = record { report = cause_report x.cause; rule = x.rule }

-- a refusal of the register itself
abbrev pub plainly : ℕ → Refusal
plainly n = record { report = own n; rule = None }

-- a fault in the note that was to become the rule n of the policy p
abbrev pub in_note : ℕ → ℕ → Report → Refusal
in_note p n e = record { report = e; rule = Some (named p n) }

-- the refusal of a call that brings no note
abbrev pub cause_refusal : Cause → Refusal
cause_refusal c = record { report = cause_report c; rule = None }
