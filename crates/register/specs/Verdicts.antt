-- The verdict, rule by rule. Assumes nothing.
use Rattle.std.specs.Prelude.{ℕ, ◌+◌, Bool, cond, ◌&&◌, ◌||◌, ◌==◌, nat_lt}
use Rattle.register.specs.declared.verdict.Verdict.{Verdict}
use Rattle.register.specs.declared.verdict.Verdict.TheVariants.{Permit, Deny}

abbrev pub number_in : Verdict → ℕ
number_in Deny = 0
number_in (Permit p n c) = c

-- a lower policy, or the same policy and a lower rule number
abbrev pub before : ℕ → ℕ → ℕ → ℕ → Bool
before p n q m = nat_lt p q || (p == q && nat_lt n m)

-- one admitting rule more: the lower of the two is named
abbrev pub with_one_more : Verdict → ℕ → ℕ → Verdict
with_one_more Deny p n = Permit p n 1
with_one_more (Permit q m c) p n = cond (before p n q m) (Permit p n (c + 1)) (Permit q m (c + 1))
