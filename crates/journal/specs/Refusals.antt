-- The refusals of calls. Assumes nothing.
use Rattle.bits.specs.declared.fault.Layer.TheVariants.{Register}
use Rattle.bits.specs.declared.fault.Report.{Report}
use Rattle.notes.specs.Faults.{report as note_report}
use Rattle.journal.specs.declared.refusal.Refusal.{Refusal}
use Rattle.journal.specs.declared.refusal.Refusal.TheVariants.{PastCalendar, Note}

-- refusal 14 past the calendar's last second, or what the fault of a note tells
abbrev pub report : Refusal → Report
report PastCalendar = record { number = 14; place = 0; layer = Register }
report (Note fault) = note_report fault
