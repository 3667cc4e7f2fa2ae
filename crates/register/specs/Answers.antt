-- What each call is answered, by the rules that stand and the links that there are. Assumes nothing.
use Rattle.std.specs.Prelude.{◌≡◌, ℕ, ◌<◌, min, Bool, cond, ◌&&◌, ◌||◌, List, Some, None, Ok, Err, Option, Result, ◌==◌, nat_lt}
use Rattle.bits.specs.declared.fault.Report.{Report}
use Rattle.members.specs.Pairs.{Pairs}
use Rattle.notes.specs.Rules.{RuleValue, note_reads}
use Rattle.register.specs.declared.fault.RegisterFault.{RegisterFault}
use Rattle.register.specs.declared.request.Request.{Request}
use Rattle.register.specs.declared.verdict.Verdict.{Verdict}
use Rattle.register.specs.declared.verdict.Verdict.TheVariants.{Permit, Deny}
use Rattle.register.specs.Entries.{Entry, is_named, is_lower, every}
use Rattle.register.specs.Faults.{Refusal, refusal_of, plainly, in_note}
use Rattle.register.specs.Requests.{targets_used, request_refusal, counts}

-- the home domain, and how many rows and targets the tables have
pub record Opening : Type 0 where
  pub home : List ℕ
  pub rows : ℕ
  pub targets : ℕ

-- a call with its arguments; a request comes with the pairs of its member list
pub data Call : Type 0 where
  add : ℕ → ℕ → List ℕ → Call
  withdraw : ℕ → ℕ → Call
  link : ℕ → ℕ → Call
  unlink : ℕ → ℕ → Call
  judge : Request → Pairs → Call

pub data Answer : Type 0 where
  accepted : Answer
  refused : Refusal → Answer
  permitted : ℕ → ℕ → ℕ → Answer
  denied : Answer

-- how many rules pass a test, and which policies are linked to which target
pub record Holdings : Type 0 where
  pub count : (Entry → Bool) → ℕ
  pub linked : ℕ → ℕ → Bool

abbrev pub stands : Holdings → ℕ → ℕ → Bool
stands h p n = nat_lt 0 (h.count (is_named p n))

-- as many rules as there are used rows
abbrev pub full : Opening → Holdings → Bool
full o h = h.count every == min 256 o.rows

abbrev pub too_high : ℕ → ℕ → Bool
too_high p n = nat_lt 63 p || nat_lt 1023 n

-- the note's own fault, then 10, then 12
abbrev pub note_refusal : ℕ → ℕ → Result RuleValue Report → Bool → Bool → Option Refusal
note_refusal p n (Err e) taken none = Some (in_note p n e)
note_refusal p n (Ok r) taken none = cond taken (Some (plainly 10)) (cond none (Some (plainly 12)) None)

-- 8, the note's own, 10, 12
abbrev pub add_refusal : Opening → Holdings → ℕ → ℕ → List ℕ → Option Refusal
add_refusal o h p n note = cond (too_high p n) (Some (plainly 8)) (note_refusal p n (note_reads note) (stands h p n) (full o h))

-- 8, 11
abbrev pub withdraw_refusal : Holdings → ℕ → ℕ → Option Refusal
withdraw_refusal h p n = cond (too_high p n) (Some (plainly 8)) (cond (stands h p n) None (Some (plainly 11)))

-- 9, 8
abbrev pub link_refusal : ℕ → ℕ → ℕ → Option Refusal
link_refusal targets t p = cond (nat_lt t (targets_used targets)) (cond (nat_lt 63 p) (Some (plainly 8)) None) (Some (plainly 9))

abbrev pub unless_refused : Option Refusal → Answer
unless_refused (Some x) = refused x
unless_refused None = accepted

-- the number of rules that pass the test; and the rule that is named passes it, and none that passes it is lower
abbrev pub Decision : ((Entry → Bool) → ℕ) → (Entry → Bool) → Answer → Type 0
Decision count f accepted = ⊥
Decision count f (refused x) = ⊥
Decision count f (permitted p n c) =
    (c ≡ count f) × (0 < count (λ e. f e && is_named p n e)) × (count (λ e. f e && is_lower p n e) ≡ 0)
Decision count f denied = count f ≡ 0

abbrev pub Judgement : Option Refusal → ((Entry → Bool) → ℕ) → (Entry → Bool) → Answer → Type 0
Judgement (Some x) count f a = a ≡ refused x
Judgement None count f a = Decision count f a

-- the answer to a call
abbrev pub Answers : Opening → Holdings → Call → Answer → Type 0
Answers o h (add p n note) a = a ≡ unless_refused (add_refusal o h p n note)
Answers o h (withdraw p n) a = a ≡ unless_refused (withdraw_refusal h p n)
Answers o h (link t p) a = a ≡ unless_refused (link_refusal o.targets t p)
Answers o h (unlink t p) a = a ≡ unless_refused (link_refusal o.targets t p)
Answers o h (judge q pairs) a = Judgement (request_refusal o.targets q) h.count (counts o.home h.linked q pairs) a

-- what the functions answer, as answers
abbrev pub done : Result (Unit {0}) RegisterFault → Answer
done (Ok x) = accepted
done (Err x) = refused (refusal_of x)

abbrev pub verdict_given : Verdict → Answer
verdict_given (Permit p n c) = permitted p n c
verdict_given Deny = denied

abbrev pub decided : Result Verdict RegisterFault → Answer
decided (Ok v) = verdict_given v
decided (Err x) = refused (refusal_of x)
