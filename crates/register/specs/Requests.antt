-- Requests to the register. Assumes nothing.
use Rattle.std.specs.Prelude.{ℕ, min, Bool, cond, ◌&&◌, List, Some, None, Option, ◌==◌, nat_le, nat_lt}
use Rattle.calendar.specs.Civil.{last_second}
use Rattle.texts.specs.TextValues.{text_of}
use Rattle.members.specs.Pairs.{Pairs}
use Rattle.notes.specs.Countries.{country_lawful}
use Rattle.notes.specs.Rules.{same_side}
use Rattle.notes.specs.declared.country.Country.{Country}
use Rattle.notes.specs.declared.rule.Side.TheVariants.{Privileges, SelfPrivileges}
use Rattle.admission.specs.Admitting.{rule_admits}
use Rattle.admission.specs.Requests.{RequestValue}
use Rattle.register.specs.declared.request.Request.{Request}
use Rattle.register.specs.declared.request.Target.{Target}
use Rattle.register.specs.declared.request.Target.TheVariants.{Number, Policy}
use Rattle.register.specs.Entries.{Entry}
use Rattle.register.specs.Faults.{Refusal, plainly}

-- what a request says to a rule
abbrev pub request_value : Request → RequestValue
request_value q = record {
  identity = text_of q.identity;
  authenticated = q.authenticated;
  operation = q.operation;
  child_type_of = q.child_type;
  instant = q.instant;
  address = q.address;
  country = q.country;
}

-- of so many targets these are in use
abbrev pub targets_used : ℕ → ℕ
targets_used n = min 4096 n

-- a policy above 63, or a target number that is not in use
abbrev pub target_refusal : ℕ → Target → Option Refusal
target_refusal targets (Number t) = cond (nat_lt t (targets_used targets)) None (Some (plainly 9))
target_refusal targets (Policy p) = cond (nat_lt p 64) None (Some (plainly 8))

abbrev pub country_refusal : Option Country → Option Refusal
country_refusal None = None
country_refusal (Some k) = cond (country_lawful k) None (Some (plainly 15))

-- the first refusal, if any
abbrev pub first_of : Option Refusal → Option Refusal → Option Refusal
first_of (Some x) y = Some x
first_of None y = y

abbrev pub instant_refusal : ℕ → Option Refusal
instant_refusal t = cond (nat_le t last_second) None (Some (plainly 14))

-- 14, then 15
abbrev pub content_refusal : Request → Option Refusal
content_refusal q = first_of (instant_refusal q.instant) (country_refusal q.country)

-- 8 or 9, then 14, then 15
abbrev pub request_refusal : ℕ → Request → Option Refusal
request_refusal targets q = first_of (target_refusal targets q.target) (content_refusal q)

-- the privileges rules of the policies that are linked to the target, or the selfPrivileges rules of the target policy
abbrev pub eligible : (ℕ → ℕ → Bool) → Target → Entry → Bool
eligible linked (Number t) e = same_side e.rule.side Privileges && linked t e.policy
eligible linked (Policy p) e = same_side e.rule.side SelfPrivileges && e.policy == p

-- an eligible rule that admits
unfoldable pub passes : List ℕ → (ℕ → ℕ → Bool) → Target → Pairs → RequestValue → Entry → Bool
passes home linked target pairs q e = eligible linked target e && rule_admits home pairs e.rule q

-- an eligible rule that admits the request
abbrev pub counts : List ℕ → (ℕ → ℕ → Bool) → Request → Pairs → Entry → Bool
counts home linked q pairs e = passes home linked q.target pairs (request_value q) e
