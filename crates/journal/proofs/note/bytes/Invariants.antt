use Rattle.std.proofs.Common.{ℕ, ◌+◌, ◌*◌, ◌<◌, get_or}
use Rattle.journal.specs.Notes.{Pair}
use Rattle.journal.proofs.note.bytes.Given as goal

abbrev pub invariant-loop-i : goal.invariant-loop-i
invariant-loop-i l = (k : ℕ) → k < l.i → Pair (get_or l.word (2 * k) 0) (get_or l.word (2 * k + 1) 0) (get_or l.space k 0)
