-- Rules that stand under a policy and a rule number. Assumes nothing.
use Rattle.std.specs.Prelude.{ℕ, Bool, true, false, ◌&&◌, ◌||◌, is_some, Some, None, Option, ◌==◌, nat_lt}
use Rattle.notes.specs.Notes.{plain_value}
use Rattle.notes.specs.Rules.{RuleValue}
use Rattle.register.specs.declared.row.HeldRule.{HeldRule}
use Rattle.register.specs.declared.row.RuleRow.{RuleRow}

pub record Entry : Type 0 where
  pub policy : ℕ
  pub number : ℕ
  pub rule : RuleValue

-- it stands under the policy p and the rule number n
abbrev pub is_named : ℕ → ℕ → Entry → Bool
is_named p n e = e.policy == p && e.number == n

-- its policy is lower than p, or it has the policy p and a rule number lower than n
abbrev pub is_lower : ℕ → ℕ → Entry → Bool
is_lower p n e = nat_lt e.policy p || (e.policy == p && nat_lt e.number n)

abbrev pub every : Entry → Bool
every e = true

-- the rule that a row holds
abbrev pub entry_of : HeldRule → Entry
entry_of h = record { policy = h.name.policy; number = h.name.number; rule = plain_value h.rule }

-- the row holds a rule
abbrev pub is_used : RuleRow → Bool
is_used r = is_some r.held

-- a rule is there, and it passes the test
abbrev pub held_passes : (Entry → Bool) → Option HeldRule → Bool
held_passes f None = false
held_passes f (Some h) = f (entry_of h)

-- the row is used, and its rule passes the test
abbrev pub hits : (Entry → Bool) → RuleRow → Bool
hits f r = held_passes f r.held

-- the row, marked free
abbrev pub freed : RuleRow → RuleRow
freed r = record { held = None }
