-- The law of a season. Assumes nothing.
use Rattle.std.specs.Prelude.{◌≡◌, ℕ, ◌≤◌, true, ◌⊎◌, List, [], ◌∷◌, map, Ok, ◌≢◌}
use Rattle.members.specs.Pairs.{Pairs, LacksNone}
use Rattle.notes.specs.Rules.{RuleValue, note_reads}
use Rattle.admission.specs.Covering.{rule_covers}
use Rattle.register.specs.declared.request.Request.{Request}
use Rattle.register.specs.Answers.{Opening, Call, add, withdraw, link, unlink, judge, Answer, accepted, refused, permitted, denied, Answers}
use Rattle.register.specs.Book.{in_book, book, book_count}
use Rattle.register.specs.Tables.{Tables, Opened, Served}

-- a call that a register has met, and what it answered
pub record Met : Type 0 where
  pub call : Call
  pub answer : Answer

abbrev pub calls : List Met → List Call
calls ms = map (λ (m : Met). m.call) ms

-- a register opened so, with the tables t now, has met these calls since, the newest first, and nothing else: each step is
-- the contract of add, withdraw, link, unlink or judge
abbrev pub Through : Opening → List Met → Tables → Type 0
Through o [] t = Opened o t
Through o (m ∷ ms) t' = (t : Tables) × Through o ms t × Served m.call t m.answer t'

-- the number of admitting rules in an answer
abbrev pub number : Answer → ℕ
number accepted = 0
number (refused x) = 0
number (permitted p n c) = c
number denied = 0

-- the number is n, and the answer denies exactly when n is zero
abbrev pub Numbered : Answer → ℕ → Type 0
Numbered accepted n = Unit {0}
Numbered (refused x) n = Unit {0}
Numbered (permitted p m c) n = (c ≡ n) × (n ≢ 0)
Numbered denied n = n ≡ 0

abbrev pub CountKept : Opening → List Call → Call → Answer → Type 0
CountKept o cs (add p n note) a = Unit {0}
CountKept o cs (withdraw p n) a = Unit {0}
CountKept o cs (link t p) a = Unit {0}
CountKept o cs (unlink t p) a = Unit {0}
CountKept o cs (judge q pairs) a = Numbered a (book_count o cs q pairs)

-- (count) in no answer does the number of admitting rules differ from the book's count, and an answer denies exactly when
-- its number is zero; and the whole answer, the named rule and each refusal too, is the book's
abbrev pub ByTheBook : Opening → List Met → Type 0
ByTheBook o [] = Unit {0}
ByTheBook o (m ∷ ms) =
    CountKept o (calls ms) m.call m.answer × Answers o (in_book (book o (calls ms))) m.call m.answer × ByTheBook o ms

abbrev pub Accepted : Answer → Type 0
Accepted a = a ≡ accepted

-- the notes read as rules, and the second covers the first
abbrev pub CoveredBy : List ℕ → List ℕ → List ℕ → Type 0
CoveredBy home note note' = (r : RuleValue) × (s : RuleValue) × (note_reads note ≡ Ok r) × (note_reads note' ≡ Ok s) × (rule_covers home s r ≡ true)

-- a second season met the same calls, but that additions and links may be inserted, an accepted addition may bring a
-- covering rule under the same policy and rule number, and each request may bring a member list that lacks no pair of the
-- first's; and it accepts every addition and link that the first accepted
pub data Wider (home : List ℕ) : List Met → List Met → Type 0 where
  opened : Wider home [] []
  more_added : {ms ns : List Met} {p n : ℕ} {note : List ℕ} {a : Answer} → Wider home ms ns → Wider home ms (record { call = add p n note; answer = a } ∷ ns)
  more_linked : {ms ns : List Met} {t p : ℕ} {a : Answer} → Wider home ms ns → Wider home ms (record { call = link t p; answer = a } ∷ ns)
  added :
      {ms ns : List Met} {p n : ℕ} {note note' : List ℕ} {a a' : Answer} → Wider home ms ns
      → (note' ≡ note) ⊎ (Accepted a × CoveredBy home note note') → (Accepted a → Accepted a')
      → Wider home (record { call = add p n note; answer = a } ∷ ms) (record { call = add p n note'; answer = a' } ∷ ns)
  withdrawn :
      {ms ns : List Met} {p n : ℕ} {a a' : Answer} → Wider home ms ns
      → Wider home (record { call = withdraw p n; answer = a } ∷ ms) (record { call = withdraw p n; answer = a' } ∷ ns)
  linked :
      {ms ns : List Met} {t p : ℕ} {a a' : Answer} → Wider home ms ns → (Accepted a → Accepted a')
      → Wider home (record { call = link t p; answer = a } ∷ ms) (record { call = link t p; answer = a' } ∷ ns)
  unlinked :
      {ms ns : List Met} {t p : ℕ} {a a' : Answer} → Wider home ms ns
      → Wider home (record { call = unlink t p; answer = a } ∷ ms) (record { call = unlink t p; answer = a' } ∷ ns)
  judged :
      {ms ns : List Met} {q : Request} {few more : Pairs} {a a' : Answer} → Wider home ms ns → LacksNone few more
      → Wider home (record { call = judge q few; answer = a } ∷ ms) (record { call = judge q more; answer = a' } ∷ ns)

-- (widening) at no request is the second number smaller
abbrev pub NeverSmaller : {home : List ℕ} {ms ns : List Met} → Wider home ms ns → Type 0
NeverSmaller opened = Unit {0}
NeverSmaller (more_added w) = NeverSmaller w
NeverSmaller (more_linked w) = NeverSmaller w
NeverSmaller (added w c k) = NeverSmaller w
NeverSmaller (withdrawn w) = NeverSmaller w
NeverSmaller (linked w k) = NeverSmaller w
NeverSmaller (unlinked w) = NeverSmaller w
NeverSmaller (judged {a = a} {a' = a'} w l) = (number a ≤ number a') × NeverSmaller w

-- both, of a season: the second register is any that was opened alike
abbrev pub Law : Opening → List Met → Type 0
Law o ms = ByTheBook o ms × ((ns : List Met) (t : Tables) → Through o ns t → (w : Wider o.home ms ns) → NeverSmaller w)
