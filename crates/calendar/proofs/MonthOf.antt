-- The month of a day: that it has the day, and that the estimate finds it.
use Rattle.std.proofs.Common.{◌≡◌, ℕ, zero, suc, ◌+◌, ◌*◌, ◌/◌, ◌<◌, ◌≤◌, min, ltb, sym, ap, subst, ⊎_elim, arith}
use Rattle.std.proofs.lemmas.Bool.{cases_eq, cond_both, ltb-true, ltb-false}
use Rattle.calendar.specs.Gregorian.{first_day, month_from, month_of}
use Rattle.calendar.proofs.FirstDays.{each_close, first_day_end, first_day_start, first_day_suc, month_length_le}

-- the month k has the day d, and is no later than the month m
abbrev pub Has : ℕ → ℕ → ℕ → Type 0
Has d m k = (first_day k ≤ d) × (d < first_day (suc k)) × (k ≤ m)

from_has : (n k d m : ℕ) → k + n ≡ m → first_day k ≤ d → d < first_day (suc m) → Has d m (month_from n k d)
unfolding month_from
from_has zero k d m e low high =
    let same : k ≡ m = omega arith in
    (low, omega (arith, ap (λ j. first_day (suc j)) same), omega arith)
from_has (suc n) k d m e low high =
    cond_both
    (ltb d (first_day (suc k)))
    k
    (month_from n (suc k) d)
    (Has d m)
    (λ here. (low, ltb-true d (first_day (suc k)) here, omega arith))
    (λ later. from_has n (suc k) d m (omega arith) (ltb-false d (first_day (suc k)) later) high)

pub month_has : (d : ℕ) → d < 36525 → Has d 1199 (month_of d)
unfolding month_of
month_has d h = from_has 1199 0 d 1199 (omega arith) (omega (arith, first_day_start)) (omega (arith, first_day_end))

pub in_month : (d k : ℕ) → d < 36525 → k ≡ month_of d → (k < 1200) × (first_day k ≤ d) × (d < first_day k + 31)
in_month d k h e =
    let has = subst (Has d 1199) (sym e) (month_has d h) in
    omega (arith, first_day_suc k, month_length_le k)

module _ (d g : ℕ) (h : d < 36525) (e : g ≡ min ((d + 2) * 16 / 487) 1199) where
  pub this_or_next : (month_of d ≤ g) × (g ≤ month_of d + 1)
  this_or_next =
      let has = month_has d h in
      let low = each_close (month_of d) (omega arith) in
      let high = each_close (suc (month_of d)) (omega arith) in
      omega arith

  pub found : first_day g ≤ d → month_of d ≡ g
  found low =
      ⊎_elim
      (λ next. absurd (omega (arith, month_has d h, ap first_day next)))
      (λ other. omega (arith, this_or_next))
      (cases_eq g (suc (month_of d)))

  pub next : d < first_day g → month_of d + 1 ≡ g
  next high =
      ⊎_elim
      (λ same. absurd (omega (arith, month_has d h, ap first_day same)))
      (λ other. omega (arith, this_or_next))
      (cases_eq g (month_of d))
