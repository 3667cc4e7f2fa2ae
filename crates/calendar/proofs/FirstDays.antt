-- The first days of the months: a table that rises holds them, they never fall, and each lies near its place by the
-- average month.
use Rattle.std.proofs.Common.{◌≡◌, ℕ, zero, suc, ◌+◌, ◌*◌, ◌<◌, ◌≤◌, Bool, true, ◌&&◌, leb, List, [], ◌∷◌, length, get_or, sym, refl, ap, ◌∙◌, subst, ⊎_elim, le_of_suc-le-suc, not-suc-le-zero, add-zero, add-suc, suc-add, zero-add, arith}
use Rattle.std.proofs.lemmas.Bool.Decides.{nat_tests}
use Rattle.std.proofs.lemmas.Bool.{and_parts, cases_lt, cases_order, eqb-true, leb-true}
use Rattle.calendar.specs.Gregorian.{first_day, month_length, rises}

-- what a table that rises from the month k on has at each place
entry_from : (xs : List ℕ) (k d : ℕ) → d ≡ first_day k → rises k d xs ≡ true → (j : ℕ) → j < length xs → get_or xs j 0 ≡ first_day (k + j)
unfolding rises first_day
entry_from [] k d e t j h = absurd (not-suc-le-zero h)
entry_from (x ∷ xs) k d e t zero h = eqb-true x d (and_parts _ _ t).0 ∙ e ∙ ap first_day (sym (add-zero k))
entry_from (x ∷ xs) k d e t (suc j) h =
    entry_from xs (suc k) (d + month_length k) (ap (λ n. n + month_length k) e) (and_parts _ _ t).1 j (le_of_suc-le-suc h) ∙ ap first_day (suc-add k j ∙ sym (add-suc k j))

pub entry : (xs : List ℕ) → rises 0 0 xs ≡ true → (k : ℕ) → k < length xs → get_or xs k 0 ≡ first_day k
unfolding first_day
entry xs t k h = entry_from xs 0 0 refl t k h ∙ ap first_day (zero-add k)

pub first_day_suc : (k : ℕ) → first_day (suc k) ≡ first_day k + month_length k
unfolding first_day
first_day_suc k = refl

pub first_day_start : first_day 0 ≡ 0
unfolding first_day
first_day_start = refl

pub first_day_end : first_day 1200 ≡ 36525
unfolding first_day month_length
first_day_end = refl

pub month_length_le : (k : ℕ) → month_length k ≤ 31
unfolding month_length
month_length_le k = grind (arith, nat_tests)

pub first_day_mono : (k j : ℕ) → k ≤ j → first_day k ≤ first_day j
first_day_mono k zero h =
    let e : k ≡ 0 = omega arith in
    omega (arith, ap first_day e)
first_day_mono k (suc j) h =
    ⊎_elim
    (λ below. omega (arith, first_day_mono k j (le_of_suc-le-suc below), first_day_suc j))
    (λ above.
    let e : k ≡ suc j = omega arith in
    omega (arith, ap first_day e))
    (cases_lt k (suc j))

-- a day is in one month only
pub same_month : (d k j : ℕ) → first_day k ≤ d → d < first_day (suc k) → first_day j ≤ d → d < first_day (suc j) → k ≡ j
same_month d k j kl kh jl jh =
    ⊎_elim
    (λ e. e)
    (λ apart.
    absurd
    (⊎_elim
    (λ below. omega (arith, first_day_mono (suc k) j below))
    (λ above. omega (arith, first_day_mono (suc j) k above))
    apart))
    (cases_order k j)

-- whether the month k begins within two days of its place by the average month, of which 16 have 487 days, if it
-- begins on the day d
close : ℕ → ℕ → Bool
close k d = leb (487 * k) (16 * d + 32) && leb (16 * d) (487 * k + 32)

-- whether that holds of the month k, which begins on the day d, and of the n months after it
close_from : ℕ → ℕ → ℕ → Bool
close_from zero k d = close k d
close_from (suc n) k d = close k d && close_from n (suc k) (d + month_length k)

abbrev pub Close : ℕ → Type 0
Close k = (487 * k ≤ 16 * first_day k + 32) × (16 * first_day k ≤ 487 * k + 32)

close_true : (k j : ℕ) → k ≡ j → close k (first_day k) ≡ true → Close j
unfolding close
close_true k j e t = subst Close e (leb-true _ _ (and_parts _ _ t).0, leb-true _ _ (and_parts _ _ t).1)

close_at : (n k : ℕ) → close_from n k (first_day k) ≡ true → (j : ℕ) → k ≤ j → j ≤ k + n → Close j
unfolding close_from first_day
close_at zero k t j low high = close_true k j (omega arith) t
close_at (suc n) k t j low high =
    ⊎_elim
    (λ later. close_at n (suc k) (and_parts _ _ t).1 j later (omega arith))
    (λ reached. close_true k j (omega arith) (and_parts _ _ t).0)
    (cases_lt k j)

pub each_close : (k : ℕ) → k ≤ 1200 → Close k
unfolding close_from close first_day month_length
each_close k h = close_at 1200 0 refl k (omega arith) (omega arith)
