-- A register by its tables, and what each call does to them. Assumes nothing.
use Rattle.std.specs.Prelude.{◌≡◌, ℕ, ◌<◌, Bool, true, false, ◌&&◌, List, ◌++◌, map, length, get_or, take, drop, Some, Ok, vec_items, count_by, nat_lt, slice_index_or, slice_set}
use Rattle.texts.specs.TextValues.{text_of}
use Rattle.notes.specs.Notes.{plain_note}
use Rattle.notes.specs.Rules.{note_reads, rule_lawful}
use Rattle.register.specs.declared.register.Register.{Register}
use Rattle.register.specs.declared.row.HeldRule.{HeldRule}
use Rattle.register.specs.declared.row.RuleRow.{RuleRow}
use Rattle.register.specs.declared.target_row.TargetRow.{TargetRow}
use Rattle.register.specs.Answers.{Opening, Call, add, withdraw, link, unlink, judge, Answer, accepted, refused, permitted, denied, Holdings, Answers}
use Rattle.register.specs.Entries.{Entry, entry_of, is_named, is_used, hits, freed}
use Rattle.register.specs.Requests.{targets_used}
use Rattle.register.specs.Targets.{unlinked}

pub record Tables : Type 0 where
  pub home : List ℕ
  pub rows : List RuleRow
  pub targets : List TargetRow

abbrev pub tables : Register → Tables
tables r = record { home = text_of r.home; rows = vec_items r.rows; targets = vec_items r.targets }

abbrev pub used_rows : Tables → List RuleRow
used_rows t = take 256 t.rows

abbrev pub opening : Tables → Opening
opening t = record { home = t.home; rows = length t.rows; targets = length t.targets }

abbrev pub is_linked : Tables → ℕ → ℕ → Bool
is_linked t k p = nat_lt k (targets_used (length t.targets)) && slice_index_or (get_or t.targets k unlinked).linked p false

-- the rules that stand are those of the used rows
abbrev pub holdings : Tables → Holdings
holdings t = record { count = λ f. count_by (hits f) (used_rows t); linked = is_linked t }

-- the used part is cleared, and what lies beyond is as it was
pub record Cleared (rows : List RuleRow) (targets : List TargetRow) (t : Tables) : Type 0 where
  pub rows_free : t.rows ≡ map freed (take 256 rows) ++ drop 256 rows
  pub targets_free : t.targets ≡ map (λ _. unlinked) (take 4096 targets) ++ drop 4096 targets

-- just opened
pub record Opened (o : Opening) (t : Tables) : Type 0 where
  pub alike : opening t ≡ o
  pub rows_free : (f : Entry → Bool) → count_by (hits f) (used_rows t) ≡ 0
  pub targets_free : (k : ℕ) → k < targets_used o.targets → slice_index_or t.targets k unlinked ≡ unlinked

-- the row x stands at the place i of the used rows
abbrev pub At : Tables → ℕ → RuleRow → Type 0
At t i x = (i < length (used_rows t)) × (x ≡ slice_index_or t.rows i x)

abbrev pub with_row : Tables → ℕ → RuleRow → Tables
with_row t i x = record { home = t.home; rows = slice_set t.rows i x; targets = t.targets }

abbrev pub with_link : Bool → Tables → ℕ → ℕ → Tables
with_link on t k p = record { home = t.home; rows = t.rows; targets = slice_set t.targets k (record { linked = slice_set (get_or t.targets k unlinked).linked p on }) }

-- the note, and the rule that it reads as, under p and n
pub record Holding (p n : ℕ) (note : List ℕ) (h : HeldRule) : Type 0 where
  pub policy : h.name.policy ≡ p
  pub number : h.name.number ≡ n
  pub note_is : plain_note h.rule ≡ note
  pub rule_is : note_reads note ≡ Ok (entry_of h).rule
  pub lawful : rule_lawful (entry_of h).rule ≡ true

-- some free row holds the rule now
abbrev pub Placed : ℕ → ℕ → List ℕ → Tables → Tables → Type 0
Placed p n note t t' = (i : ℕ) × (x : RuleRow) × (h : HeldRule) × At t i x × (is_used x ≡ false) × Holding p n note h × (t' ≡ with_row t i (record { held = Some h }))

-- the row of the rule is free now
abbrev pub Freed : ℕ → ℕ → Tables → Tables → Type 0
Freed p n t t' = (i : ℕ) × (x : RuleRow) × At t i x × (hits (is_named p n) x ≡ true) × (t' ≡ with_row t i (freed x))

-- the tables after an answer: as they were, unless it accepts
abbrev pub After : Answer → Tables → Tables → Type 0 → Type 0
After accepted t t' change = change
After (refused x) t t' change = t' ≡ t
After (permitted p n c) t t' change = t' ≡ t
After denied t t' change = t' ≡ t

-- what an accepted call does to the tables
abbrev pub Change : Call → Tables → Tables → Type 0
Change (add p n note) t t' = Placed p n note t t'
Change (withdraw p n) t t' = Freed p n t t'
Change (link k p) t t' = t' ≡ with_link true t k p
Change (unlink k p) t t' = t' ≡ with_link false t k p
Change (judge q pairs) t t' = t' ≡ t

-- the contract of each call: its answer, and the tables afterwards
pub record Served (c : Call) (t : Tables) (a : Answer) (t' : Tables) : Type 0 where
  pub answer : Answers (opening t) (holdings t) c a
  pub later : After a t t' (Change c t t')

abbrev pub link_or_unlink : Bool → ℕ → ℕ → Call
link_or_unlink true k p = link k p
link_or_unlink false k p = unlink k p

-- a link is entered or taken away
abbrev pub LinkSet : Bool → ℕ → ℕ → Tables → Answer → Tables → Type 0
LinkSet on k p t a t' = Served (link_or_unlink on k p) t a t'
