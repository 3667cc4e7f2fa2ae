-- The verdict, row by row. Assumes nothing.
use Rattle.std.proofs.Common.{◌≡◌, ℕ, ◌+◌, ◌<◌, ◌≤◌, Bool, true, false, cond, ◌&&◌, List, length, get_or, take, Some, None, count_by, Option, sym, refl, ap, ◌∙◌, ⊎_elim, arith}
use borrow.Author.Tests.{clash}
use Rattle.std.proofs.lemmas.List.Sums.{count_by_more_yes, count_by_more_no, count_by-le-length}
use Rattle.std.proofs.lemmas.Bool.{and_parts, and_from, and_left, eq-eqb, cases_Bool}
use Rattle.std.proofs.lemmas.Bool.Decides.{nat_tests}
use Rattle.register.specs.declared.row.HeldRule.{HeldRule}
use Rattle.register.specs.declared.row.RuleRow.{RuleRow}
use Rattle.register.specs.declared.verdict.Verdict.{Verdict}
use Rattle.register.specs.declared.verdict.Verdict.TheVariants.{Permit, Deny}
use Rattle.register.specs.Answers.{Decision, verdict_given}
use Rattle.register.specs.Entries.{Entry, entry_of, is_named, is_lower, held_passes, hits}
use Rattle.register.specs.Verdicts.{number_in, before, with_one_more}
use Rattle.register.proofs.Counts.{count_mono}

-- how many of these rows pass a test
abbrev pub among : List RuleRow → (Entry → Bool) → ℕ
among xs g = count_by (hits g) xs

lower_still : (a b p n q m : ℕ) → before a b p n ≡ true → before p n q m ≡ true → before a b q m ≡ true
lower_still a b p n q m h k = grind (arith, nat_tests)

not_before_itself : (p n : ℕ) → before p n p n ≡ false
not_before_itself p n = grind (arith, nat_tests)

pub verdict_few : (f : Entry → Bool) (xs : List RuleRow) (v : Verdict) → length xs ≤ 256 → Decision (among xs) f (verdict_given v) → number_in v ≤ 256
verdict_few f xs Deny l h = omega arith
verdict_few f xs (Permit p n c) l h = omega (arith, h.0, count_by-le-length (hits f) xs)

fewer : (f g : Entry → Bool) (xs : List RuleRow) → ((e : Entry) → f e ≡ true → g e ≡ true) → among xs f ≤ among xs g
fewer f g xs h = count_mono (hits f) (hits g) xs (λ r. kept r.held)
  where
    kept : (o : Option HeldRule) → held_passes f o ≡ true → held_passes g o ≡ true
    kept None t = absurd (clash t)
    kept (Some x) t = h (entry_of x) t

module _ (f : Entry → Bool) (xs : List RuleRow) (i : ℕ) (d : RuleRow) (inside : i < length xs) where
  abbrev row : RuleRow
  row = get_or xs i d

  abbrev front : List RuleRow
  front = take i xs

  abbrev next : List RuleRow
  next = take (i + 1) xs

  more : (g : Entry → Bool) → hits g row ≡ true → among next g ≡ among front g + 1
  more g h = count_by_more_yes (hits g) xs i d inside h

  same : (g : Entry → Bool) → hits g row ≡ false → among next g ≡ among front g
  same g h = count_by_more_no (hits g) xs i d inside h

  grows : (g : Entry → Bool) → among front g ≤ among next g
  grows g = ⊎_elim (λ h. omega (arith, more g h)) (λ h. omega (arith, same g h)) (cases_Bool (hits g row))

  -- what fails a test fails it and another
  off : (k : Entry → Bool) (o : Option HeldRule) → held_passes f o ≡ false → held_passes (λ e. f e && k e) o ≡ false
  off k None h = refl
  off k (Some x) h = and_left (f (entry_of x)) (k (entry_of x)) h

  pub passed_over : (v : Verdict) → hits f row ≡ false → Decision (among front) f (verdict_given v) → Decision (among next) f (verdict_given v)
  passed_over Deny h c = same f h ∙ c
  passed_over (Permit p n c) h (e, named, lower) =
      let other : (k : Entry → Bool) → among next (λ e. f e && k e) ≡ among front (λ e. f e && k e) = λ k. same (λ e. f e && k e) (off k row.held h) in
      (e ∙ sym (same f h), omega (arith, other (is_named p n)), other (is_lower p n) ∙ lower)

  module _ (h : HeldRule) (holds : row.held ≡ Some h) (passed : f (entry_of h) ≡ true) where
    abbrev p : ℕ
    p = h.name.policy

    abbrev n : ℕ
    n = h.name.number

    hit : hits f row ≡ true
    hit = ap (held_passes f) holds ∙ passed

    with_test : (k : Entry → Bool) (b : Bool) → k (entry_of h) ≡ b → hits (λ e. f e && k e) row ≡ b
    with_test k b e = ap (held_passes (λ e. f e && k e)) holds ∙ (λ j. passed j && e j)

    itself : is_named p n (entry_of h) ≡ true
    itself = and_from _ _ (eq-eqb p p refl) (eq-eqb n n refl)

    -- the row's rule is the lowest so far
    lowest : (c : ℕ) → c ≡ among front f → among front (λ e. f e && is_lower p n e) ≡ 0
        → Decision (among next) f (verdict_given (Permit p n (c + 1)))
    lowest c e none = (
      ap (λ n. n + 1) e ∙ sym (more f hit),
      omega (arith, more (λ e. f e && is_named p n e) (with_test (is_named p n) true itself)),
      same (λ e. f e && is_lower p n e) (with_test (is_lower p n) false (not_before_itself p n)) ∙ none,
    )

    by_order :
        (q m c : ℕ) (b : Bool) → before p n q m ≡ b → Decision (among front) f (verdict_given (Permit q m c))
        → Decision (among next) f (verdict_given (cond b (Permit p n (c + 1)) (Permit q m (c + 1))))
    by_order q m c true first (e, named, lower) =
        lowest c e (let le = fewer (λ e. f e && is_lower p n e) (λ e. f e && is_lower q m e) front
        (λ e t. let w = and_parts (f e) _ t in and_from (f e) _ w.0 (lower_still e.policy e.number p n q m w.1 first)) in
        omega (arith, le, lower))
    by_order q m c false later (e, named, lower) =
        let le = grows (λ e. f e && is_named q m e) in
        (ap (λ n. n + 1) e ∙ sym (more f hit), omega (arith, le, named), same (λ e. f e && is_lower q m e) (with_test (is_lower q m) false later) ∙ lower)

    pub passed_with : (v : Verdict) → Decision (among front) f (verdict_given v) → Decision (among next) f (verdict_given (with_one_more v p n))
    passed_with Deny none =
        lowest 0 (sym none) (let le = fewer (λ e. f e && is_lower p n e) f front (λ e t. (and_parts (f e) _ t).0) in omega (arith, le, none))
    passed_with (Permit q m c) d = by_order q m c _ refl d
