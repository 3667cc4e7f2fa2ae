-- Two misreadings that are shut out. Assumes nothing.
use Rattle.std.proofs.Common.{◌≡◌, ℕ, suc, ◌-◌, ◌<◌, Bool, true, List, [], ◌∷◌, length, get_or, Some, ⊎_elim, arith}
use Rattle.std.specs.List.{list_any}
use borrow.Author.Tests.{clash}
use Rattle.texts.proofs.Bools.{both_true, or_true}
use Rattle.notes.specs.Blocks.{block_admits}
use Rattle.notes.specs.Constraints.{list_admits_option}
use Rattle.notes.specs.Contexts.{context_admits}
use Rattle.notes.specs.Countries.{country_same}
use Rattle.notes.specs.Sets.{member}
use Rattle.notes.specs.Windows.{clock_admits, window_admits}
use Rattle.admission.specs.Misreadings.{DayAndWeekday, OneContext}

pub day_and_weekday : DayAndWeekday
day_and_weekday w t a =
    let date = both_true (clock_admits w.clock t) _ a in
    let days = both_true (member 31 w.date.days.bits (t.day - 1)) _ date.1 in
    let months = both_true (member 12 w.date.months.bits (t.month - 1)) _ days.1 in
    (days.0, (both_true (member 7 w.date.weekdays.bits t.weekday) (member 100 w.date.years.bits (t.year - 2000)) months.1).0)

-- the one that passes the test
one_passes : {X : Type 0} (p : X → Bool) (xs : List X) → list_any p xs ≡ true → (i : ℕ) × (i < length xs) × ((d : X) → p (get_or xs i d) ≡ true)
one_passes p [] e = absurd (clash e)
one_passes p (x ∷ xs) e =
    ⊎_elim (λ h. (0, omega arith, λ d. h)) (λ h. let z = one_passes p xs h in (suc z.0, omega (arith, z.1), z.2)) (or_true (p x) _ e)

pub one_context : OneContext
unfolding list_admits_option
one_context [] t a k there e = absurd (omega arith)
one_context (c ∷ cs) t a k there e =
    let z = one_passes (λ c. context_admits c t a k) (c ∷ cs) e in (
      z.0,
      z.1,
      λ d.
          let x = get_or (c ∷ cs) z.0 d in
          let w = both_true (list_admits_option window_admits x.windows (Some t)) _ (z.2 d) in
          let b = both_true (list_admits_option block_admits x.blocks a) (list_admits_option country_same x.countries k) w.1 in
          (w.0, b.0, b.1),
    )
