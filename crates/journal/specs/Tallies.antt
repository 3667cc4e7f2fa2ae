-- The counts of a journal. Assumes nothing.
use Rattle.std.specs.Prelude.{ℕ, ◌+◌, ◌-◌, ◌^◌, min}
use Rattle.journal.specs.declared.answer.Answer.{Answer}
use Rattle.journal.specs.declared.answer.Answer.TheVariants.{Refused, Civil, Rule, Note, Unreadable}
use Rattle.journal.specs.declared.tally.Tally.{Tally}

abbrev pub zeros : Tally
zeros = record { calls = 0; accepted = 0; refused = 0; permitted = 0; denied = 0; unreadable = 0 }

-- one more, but at most the largest number of 64 bits
abbrev raised : ℕ → ℕ
raised n = min (n + 1) (2 ^ 64 - 1)

-- every answer counts as a call, and in the count of its own kind if it has one
abbrev pub counted : Answer → Tally → Tally
counted (Refused r) t = record { calls = raised t.calls; accepted = t.accepted; refused = raised t.refused; permitted = t.permitted; denied = t.denied; unreadable = t.unreadable }
counted (Civil c) t = record { calls = raised t.calls; accepted = t.accepted; refused = t.refused; permitted = t.permitted; denied = t.denied; unreadable = t.unreadable }
counted (Rule u) t = record { calls = raised t.calls; accepted = t.accepted; refused = t.refused; permitted = t.permitted; denied = t.denied; unreadable = t.unreadable }
counted (Note w) t = record { calls = raised t.calls; accepted = t.accepted; refused = t.refused; permitted = t.permitted; denied = t.denied; unreadable = t.unreadable }
counted (Unreadable u) t = record { calls = raised t.calls; accepted = t.accepted; refused = t.refused; permitted = t.permitted; denied = t.denied; unreadable = raised t.unreadable }
