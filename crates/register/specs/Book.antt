-- The season book: what was accepted and not withdrawn since, from the calls' arguments alone. Assumes nothing.
use Rattle.std.specs.Prelude.{ℕ, Bool, true, false, cond, not, ◌&&◌, List, [], ◌∷◌, Some, None, Ok, Err, count_by, filter, Option, Result, ◌==◌}
use Rattle.bits.specs.declared.fault.Report.{Report}
use Rattle.notes.specs.Rules.{RuleValue, note_reads}
use Rattle.members.specs.Pairs.{Pairs}
use Rattle.register.specs.declared.request.Request.{Request}
use Rattle.register.specs.Answers.{Opening, Call, add, withdraw, link, unlink, judge, Holdings, add_refusal, withdraw_refusal, link_refusal}
use Rattle.register.specs.Entries.{Entry, is_named}
use Rattle.register.specs.Faults.{Refusal}
use Rattle.register.specs.Requests.{counts}

pub record Book : Type 0 where
  pub rules : List Entry
  pub links : ℕ → ℕ → Bool

abbrev pub empty : Book
empty = record { rules = []; links = λ t p. false }

abbrev pub in_book : Book → Holdings
in_book b = record { count = λ f. count_by f b.rules; linked = b.links }

-- a refusal changes nothing
abbrev pub unless : Option Refusal → Book → Book → Book
unless (Some x) later b = b
unless None later b = later

-- the note's rule is entered under p and n
abbrev pub entered : ℕ → ℕ → Result RuleValue Report → Book → Book
entered p n (Ok r) b = record { rules = record { policy = p; number = n; rule = r } ∷ b.rules; links = b.links }
entered p n (Err e) b = b

-- the rule under p and n is struck out
abbrev pub struck : ℕ → ℕ → Book → Book
struck p n b = record { rules = filter (λ e. not (is_named p n e)) b.rules; links = b.links }

-- the target t and the policy p are entered, or struck out
abbrev pub marked : Bool → ℕ → ℕ → Book → Book
marked on t p b = record { rules = b.rules; links = λ u q. cond (u == t && q == p) on (b.links u q) }

-- the book after a call
abbrev pub noted : Opening → Call → Book → Book
noted o (add p n note) b = unless (add_refusal o (in_book b) p n note) (entered p n (note_reads note) b) b
noted o (withdraw p n) b = unless (withdraw_refusal (in_book b) p n) (struck p n b) b
noted o (link t p) b = unless (link_refusal o.targets t p) (marked true t p b) b
noted o (unlink t p) b = unless (link_refusal o.targets t p) (marked false t p b) b
noted o (judge q pairs) b = b

-- the book of a list of calls, the newest first
abbrev pub book : Opening → List Call → Book
book o [] = empty
book o (c ∷ cs) = noted o c (book o cs)

-- the book's count of the eligible rules that admit a request
abbrev pub book_count : Opening → List Call → Request → Pairs → ℕ
book_count o cs q pairs = (in_book (book o cs)).count (counts o.home (book o cs).links q pairs)
