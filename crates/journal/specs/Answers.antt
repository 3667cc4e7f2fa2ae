-- What a call is answered. Assumes nothing.
use Rattle.std.specs.Prelude.{◌≡◌, ℕ, cond, ◌⊎◌, List, Ok, Err, Result, nat_le}
use Rattle.bits.specs.declared.fault.Layer.TheVariants.{Register}
use Rattle.bits.specs.declared.fault.Report.{Report}
use Rattle.calendar.specs.Civil.{civil_of, last_second}
use Rattle.notes.specs.declared.rule.Rule.{Rule}
use Rattle.notes.specs.Notes.{rule_value}
use Rattle.notes.specs.Rules.{RuleValue, note_reads}
use Rattle.journal.specs.declared.answer.Answer.{Answer}
use Rattle.journal.specs.declared.answer.Answer.TheVariants.{Refused, Civil, Rule as RuleRead, Note, Unreadable}
use Rattle.journal.specs.declared.call.Call.{Call}
use Rattle.journal.specs.declared.call.Call.TheVariants.{When, Read, Write}
use Rattle.journal.specs.declared.unreadable.Unreadable.{Unreadable as Fault}
use Rattle.texts.specs.Few.{listed}
use Rattle.journal.specs.declared.written.Written.{Written}
use Rattle.journal.specs.Calls.{Spells, ReadsLine}

-- the calendar's reading of an instant, or refusal 14 past its last second
abbrev pub when_answer : ℕ → Answer
when_answer n = cond (nat_le n last_second) (Civil (civil_of n)) (Refused (record { number = 14; place = 0; layer = Register }))

-- the bytes that are written
abbrev pub written : Written → List ℕ
written w = listed w.note

-- a rule that says what the note says, or the note's refusal
abbrev pub ReadAnswer : Result RuleValue Report → Answer → Type 0
ReadAnswer (Ok value) r = (rule : Rule) × (r ≡ RuleRead rule) × (rule_value rule ≡ value)
ReadAnswer (Err report) r = r ≡ Refused report

-- the same note where it has a rule, or the note's refusal
abbrev pub WriteAnswer : Result RuleValue Report → List ℕ → Answer → Type 0
WriteAnswer (Ok value) note r = (w : Written) × (r ≡ Note w) × (written w ≡ note)
WriteAnswer (Err report) note r = r ≡ Refused report

-- what a call is answered
abbrev pub Answered : Call → Answer → Type 0
Answered (When n) r = r ≡ when_answer n
Answered (Read note) r = ReadAnswer (note_reads note.now) r
Answered (Write note) r = WriteAnswer (note_reads note.now) note.now r

-- the words of the line spell a call, and it is answered; or they spell none, and the line is unreadable
abbrev pub Replied : List (List ℕ) → Answer → Type 0
Replied line r = ((call : Call) × Spells line call × Answered call r) ⊎ ((fault : Fault) × (r ≡ Unreadable fault) × ReadsLine line (Err fault))
