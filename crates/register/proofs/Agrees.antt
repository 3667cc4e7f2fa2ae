-- The tables and the book agree after each call. Assumes nothing.
use Rattle.std.proofs.Common.{◌≡◌, ℕ, zero, suc, ◌+◌, ◌<◌, ◌≤◌, Bool, true, false, cond, not, ◌&&◌, eqb, ltb, List, ◌∷◌, length, get_or, set, replicate, is_some, Some, None, Ok, Err, count_by, Option, Result, sym, refl, ap, ◌∙◌, subst, ⊎_elim, arith, length-set, length-take, get_or-set_other, get_or-take, get_or-set_same}
use mathlib.Core.Bool.{false≢true}
use Rattle.std.proofs.Math.Bool.{and_comm}
use lib.Seq.{take-set-lt}
use Rattle.std.proofs.lemmas.Bool.{and_parts, cases_Bool, cases_eq, eqb-true, eq-eqb, ne_eqb, ltb-true, ltb-false, lt-ltb}
use Rattle.bits.specs.declared.fault.Report.{Report}
use Rattle.notes.specs.Rules.{RuleValue, note_reads}
use Rattle.register.specs.declared.row.HeldRule.{HeldRule}
use Rattle.register.specs.declared.row.RuleRow.{RuleRow}
use Rattle.register.specs.declared.target_row.TargetRow.{TargetRow}
use Rattle.register.specs.Answers.{Opening, Call, add, withdraw, link, unlink, judge, Answer, accepted, refused, permitted, denied, stands, too_high, note_refusal, add_refusal, withdraw_refusal, link_refusal, unless_refused, Answers}
use Rattle.register.specs.Book.{Book, empty, in_book, unless, entered, struck, marked, noted}
use Rattle.register.specs.Entries.{Entry, entry_of, is_named, is_used, held_passes, hits, freed}
use Rattle.register.specs.Faults.{Refusal, plainly}
use Rattle.register.specs.Requests.{targets_used}
use Rattle.register.specs.Tables.{Tables, used_rows, opening, is_linked, holdings, Opened, At, with_row, with_link, After, Served}
use Rattle.register.specs.Targets.{unlinked}
use Rattle.members.proofs.Counts.{count_set}
use Rattle.register.proofs.Counts.{count_cons, count_same, count_split, count_kept}

some_none : (x : Refusal) → Some x ≡ None → ⊥
some_none x e = let z : ◌≡◌ {A = ℕ} 0 1 = cc in absurd (omega arith)

-- a request changes nothing, whatever it is answered
unchanged : (x : Answer) (t t' : Tables) → After x t t' (t' ≡ t) → t' ≡ t
unchanged accepted t t' h = h
unchanged (refused y) t t' h = h
unchanged (permitted p n c) t t' h = h
unchanged denied t t' h = h

pub record Agrees (o : Opening) (t : Tables) (b : Book) : Type 0 where
  pub alike : opening t ≡ o
  pub rules : (f : Entry → Bool) → count_by (hits f) (used_rows t) ≡ count_by f b.rules
  pub links : (k p : ℕ) → is_linked t k p ≡ b.links k p
  pub wide : (k : ℕ) → k < targets_used o.targets → length (get_or t.targets k unlinked).linked ≡ 64
  pub single : (p n : ℕ) → count_by (is_named p n) b.rules ≤ 1

all_false : (n p : ℕ) → get_or (replicate n false) p false ≡ false
all_false zero p = refl
all_false (suc n) zero = refl
all_false (suc n) (suc p) = all_false n p

no_link : (u : Bool) (x : TargetRow) (p : ℕ) → (u ≡ true → x ≡ unlinked) → (u && get_or x.linked p false) ≡ false
no_link true x p h = ap (λ (y : TargetRow). get_or y.linked p false) (h refl) ∙ all_false 64 p
no_link false x p h = refl

pub open_agrees : (o : Opening) (t : Tables) → Opened o t → Agrees o t empty
open_agrees o t h =
    let targets : length t.targets ≡ o.targets = ap (λ (x : Opening). x.targets) h.alike in
    record {
      alike = h.alike;
      rules = h.rows_free;
      links = λ k p. no_link (ltb k (targets_used (length t.targets))) (get_or t.targets k unlinked) p (λ y. h.targets_free k (omega (arith, ltb-true k _ y, targets)));
      wide = λ k lt. ap (λ (x : TargetRow). length x.linked) (h.targets_free k lt);
      single = λ p n. omega arith;
    }

of_one : (x y : Bool) → y ≡ true → (◌≡◌ {A = ℕ} (cond (x && y) 1 0) (cond x 1 0)) × (◌≡◌ {A = ℕ} (cond (y && not x) 1 0 + cond x 1 0) 1)
of_one true true h = (refl, refl)
of_one false true h = (refl, refl)
of_one x false h = absurd (false≢true h)

-- a row that holds the rule of a name: whether f picks it
of_named : (f k : Entry → Bool) (o : Option HeldRule) → held_passes k o ≡ true → (◌≡◌ {A = ℕ} (cond (held_passes (λ e. f e && k e) o) 1 0) (cond (held_passes f o) 1 0)) × (◌≡◌ {A = ℕ} (cond (held_passes (λ e. k e && not (f e)) o) 1 0 + cond (held_passes f o) 1 0) 1)
of_named f k None h = absurd (false≢true h)
of_named f k (Some r) h = of_one (f (entry_of r)) (k (entry_of r)) h

-- a free row holds no rule that passes a test
free_fails : (f : Entry → Bool) (o : Option HeldRule) → is_some o ≡ false → held_passes f o ≡ false
free_fails f None h = refl
free_fails f (Some r) h = absurd (false≢true (sym h))

single_more : (b : Book) (e : Entry) (p n : ℕ) → stands (in_book b) e.policy e.number ≡ false → count_by (is_named p n) b.rules ≤ 1 → count_by (is_named p n) (e ∷ b.rules) ≤ 1
single_more b e p n fresh one =
    ⊎_elim
    (λ y.
    let parts = and_parts (eqb e.policy p) (eqb e.number n) y in
    let same : stands (in_book b) p n ≡ false = (λ i. stands (in_book b) (sym (eqb-true e.policy p parts.0) i) (sym (eqb-true e.number n parts.1) i)) ∙ fresh in
    let z : ◌≡◌ {A = ℕ} (cond (is_named p n e) 1 0) 1 = rw y in
    omega (arith, count_cons (is_named p n) e b.rules, z, ltb-false _ _ same))
    (λ y. let z : ◌≡◌ {A = ℕ} (cond (is_named p n e) 1 0) 0 = rw y in omega (arith, count_cons (is_named p n) e b.rules, z))
    (cases_Bool (is_named p n e))

get_d_set_cond : {X : Type 0} (xs : List X) (i j : ℕ) (y d : X) → i < length xs → get_or (set xs i y) j d ≡ cond (eqb j i) y (get_or xs j d)
get_d_set_cond xs i j y d h =
    ⊎_elim
    (λ e. subst (λ m. get_or (set xs i y) m d ≡ cond (eqb m i) y (get_or xs m d)) (sym e) (get_or-set_same xs i y d h ∙ ap (λ c. cond c y (get_or xs i d)) (sym (eq-eqb i i refl))))
    (λ e. get_or-set_other xs i j y d e ∙ ap (λ c. cond c y (get_or xs j d)) (sym (ne_eqb j i e)))
    (cases_eq j i)

-- one flag of one target
flag_one :
    (u x y v : Bool) (old old' : TargetRow) (p' : ℕ) (new : TargetRow) → (x ≡ true → (old ≡ old') × (u ≡ true))
    → get_or new.linked p' false ≡ cond y v (get_or old.linked p' false)
    → (u && get_or (cond x new old').linked p' false) ≡ cond (x && y) v (u && get_or old'.linked p' false)
flag_one u false y v old old' p' new h e = refl
flag_one false true y v old old' p' new h e = absurd (false≢true (h refl).1)
flag_one true true true v old old' p' new h e = e
flag_one true true false v old old' p' new h e = e ∙ ap (λ (t : TargetRow). get_or t.linked p' false) (h refl).0

wide_one : (x : Bool) (new old : TargetRow) → length new.linked ≡ 64 → length old.linked ≡ 64 → length (cond x new old).linked ≡ 64
wide_one true new old p q = p
wide_one false new old p q = q

module _ {o : Opening} {t : Tables} {b : Book} (a : Agrees o t b) where
  pub same_holdings : holdings t ≡ in_book b
  same_holdings = λ i. record { count = λ f. a.rules f i; linked = λ k p. a.links k p i }

  -- an answer by the tables is one by the book
  pub answer_by_book : (c : Call) (x : Answer) → Answers (opening t) (holdings t) c x → Answers o (in_book b) c x
  answer_by_book c x h = subst (λ k. Answers o k c x) same_holdings (subst (λ k. Answers k (holdings t) c x) a.alike h)

  module _ (i : ℕ) (x : RuleRow) (at : At t i x) where
    row_is : get_or (used_rows t) i x ≡ x
    row_is = get_or-take 256 t.rows i x (omega (arith, at.0, length-take 256 t.rows)) ∙ sym at.1

    -- one row is written
    row_set : (f : Entry → Bool) (y : RuleRow) → count_by (hits f) (used_rows (with_row t i y)) + cond (hits f x) 1 0 ≡ count_by f b.rules + cond (hits f y) 1 0
    row_set f y =
        let below : i < 256 = omega (arith, at.0, length-take 256 t.rows) in
        (λ j. count_by (hits f) (take-set-lt 256 t.rows i y below j) + cond (hits f (sym row_is j)) 1 0)
        ∙ count_set (hits f) (used_rows t) i y x at.0 ∙ ap (λ n. n + cond (hits f y) 1 0) (a.rules f)

    long : (y : RuleRow) → opening (with_row t i y) ≡ o
    long y = (λ j. record { home = t.home; rows = length-set t.rows i y j; targets = length t.targets }) ∙ a.alike

    pub add_agrees :
        (h : HeldRule) (e : Entry) → stands (in_book b) e.policy e.number ≡ false → is_used x ≡ false → entry_of h ≡ e
        → Agrees o (with_row t i (record { held = Some h })) (record { rules = e ∷ b.rules; links = b.links })
    add_agrees h e fresh free is = record {
      alike = long (record { held = Some h });
      rules = λ f.
          let z : ◌≡◌ {A = ℕ} (cond (hits f x) 1 0) 0 = rw (free_fails f x.held free) in
          let w : ◌≡◌ {A = ℕ} (cond (f (entry_of h)) 1 0) (cond (f e) 1 0) = ap (λ e. cond (f e) 1 0) is in
          omega (arith, row_set f (record { held = Some h }), count_cons f e b.rules, z, w);
      links = a.links;
      wide = a.wide;
      single = λ p n. single_more b e p n fresh (a.single p n);
    }

    pub withdraw_agrees : (p n : ℕ) → hits (is_named p n) x ≡ true → Agrees o (with_row t i (freed x)) (struck p n b)
    withdraw_agrees p n found = record {
      alike = long (freed x);
      rules = λ f. omega (
        arith,
        row_set f (freed x),
        row_set (λ e. f e && is_named p n e) (freed x),
        row_set (λ e. is_named p n e && not (f e)) (freed x),
        of_named f (is_named p n) x.held found,
        count_split f (is_named p n) b.rules,
        count_split (is_named p n) f b.rules,
        count_same (λ e. f e && is_named p n e) (λ e. is_named p n e && f e) b.rules (λ e. and_comm (f e) (is_named p n e)),
        count_kept f (λ e. not (is_named p n e)) b.rules,
        a.single p n,
      );
      links = a.links;
      wide = a.wide;
      single = λ p' n'. omega (arith, a.single p' n', count_kept (is_named p' n') (λ e. not (is_named p n e)) b.rules, count_split (is_named p' n') (is_named p n) b.rules);
    }

  pub link_agrees : (v : Bool) (k p : ℕ) → k < targets_used o.targets → p < 64 → Agrees o (with_link v t k p) (marked v k p b)
  link_agrees v k p hk hp =
      let old = get_or t.targets k unlinked in
      let new : TargetRow = record { linked = set old.linked p v } in
      let targets : length t.targets ≡ o.targets = ap (λ (x : Opening). x.targets) a.alike in
      let inside : k < length t.targets = omega (arith, targets) in
      let flat : length (set t.targets k new) ≡ length t.targets = length-set t.targets k new in
      record {
        alike = (λ j. record { home = t.home; rows = length t.rows; targets = flat j }) ∙ a.alike;
        rules = a.rules;
        links = λ k' p'.
            (λ j. ltb k' (targets_used (flat j)) && get_or (get_d_set_cond t.targets k k' new unlinked inside j).linked p' false)
            ∙ flag_one (ltb k' (targets_used (length t.targets))) (eqb k' k) (eqb p' p) v old (get_or t.targets k' unlinked) p' new
            (λ y. let e = eqb-true k' k y in (ap (λ m. get_or t.targets m unlinked) (sym e), lt-ltb k' (targets_used (length t.targets)) (omega (arith, e, targets))))
            (get_d_set_cond old.linked p p' v false (omega (arith, a.wide k hk)))
            ∙ ap (λ x. cond (eqb k' k && eqb p' p) v x) (a.links k' p');
        wide = λ k' h.
            ap (λ (x : TargetRow). length x.linked) (get_d_set_cond t.targets k k' new unlinked inside)
            ∙ wide_one (eqb k' k) new (get_or t.targets k' unlinked) (length-set old.linked p v ∙ a.wide k hk) (a.wide k' h);
        single = a.single;
      }

  module _ (t' : Tables) (x : Answer) where
    kept : t' ≡ t → Agrees o t' b
    kept e = subst (λ y. Agrees o y b) (sym e) a

    -- a refusal leaves both as they were, and an acceptance changes both
    settled :
        (refusal : Option Refusal) (Ch : Type 0) (later : Book) → x ≡ unless_refused refusal → After x t t' Ch
        → (refusal ≡ None → Ch → Agrees o t' later) → Agrees o t' (unless refusal later b)
    settled (Some y) Ch later e h k = kept (subst (λ z. After z t t' Ch) e h)
    settled None Ch later e h k = k refl (subst (λ z. After z t t' Ch) e h)

    not_taken : (p n : ℕ) (high taken none : Bool) (r : Result RuleValue Report) → cond high (Some (plainly 8)) (note_refusal p n r taken none) ≡ None → taken ≡ false
    not_taken p n true taken none r e = absurd (some_none _ e)
    not_taken p n false taken none (Err y) e = absurd (some_none _ e)
    not_taken p n false true none (Ok y) e = absurd (some_none _ e)
    not_taken p n false false none (Ok y) e = refl

    in_range : (k p : ℕ) (used high : Bool) → cond used (cond high (Some (plainly 8)) None) (Some (plainly 9)) ≡ None → (used ≡ true) × (high ≡ false)
    in_range k p true true e = absurd (some_none _ e)
    in_range k p true false e = (refl, refl)
    in_range k p false high e = absurd (some_none _ e)

pub step_agrees : (o : Opening) (c : Call) (t : Tables) (b : Book) (x : Answer) (t' : Tables) → Agrees o t b → Served c t x t' → Agrees o t' (noted o c b)
step_agrees o (add p n note) t b x t' a s =
    settled a t' x (add_refusal o (in_book b) p n note) _ (entered p n (note_reads note) b) (answer_by_book a (add p n note) x s.answer) s.later
    (λ none (i, y, z, at, free, holds, is).
    let fresh = not_taken a t' x p n (too_high p n) (stands (in_book b) p n) _ (note_reads note) none in
    let e : Entry = record { policy = p; number = n; rule = (entry_of z).rule } in
    subst (λ u. Agrees o u (entered p n (note_reads note) b)) (sym is)
    (subst (λ r. Agrees o (with_row t i (record { held = Some z })) (entered p n r b)) (sym holds.rule_is)
    (add_agrees a i y at z e fresh free (λ j. record { policy = holds.policy j; number = holds.number j; rule = (entry_of z).rule }))))
step_agrees o (withdraw p n) t b x t' a s =
    settled a t' x (withdraw_refusal (in_book b) p n) _ (struck p n b) (answer_by_book a (withdraw p n) x s.answer) s.later
    (λ none (i, y, at, found, is). subst (λ u. Agrees o u (struck p n b)) (sym is) (withdraw_agrees a i y at p n found))
step_agrees o (link k p) t b x t' a s =
    settled a t' x (link_refusal o.targets k p) _ (marked true k p b) (answer_by_book a (link k p) x s.answer) s.later
    (λ none is.
    let w = in_range a t' x k p (ltb k (targets_used o.targets)) (ltb 63 p) none in
    subst (λ u. Agrees o u (marked true k p b)) (sym is) (link_agrees a true k p (ltb-true _ _ w.0) (omega (arith, ltb-false _ _ w.1))))
step_agrees o (unlink k p) t b x t' a s =
    settled a t' x (link_refusal o.targets k p) _ (marked false k p b) (answer_by_book a (unlink k p) x s.answer) s.later
    (λ none is.
    let w = in_range a t' x k p (ltb k (targets_used o.targets)) (ltb 63 p) none in
    subst (λ u. Agrees o u (marked false k p b)) (sym is) (link_agrees a false k p (ltb-true _ _ w.0) (omega (arith, ltb-false _ _ w.1))))
step_agrees o (judge q pairs) t b x t' a s = kept a t' x (unchanged x t t' s.later)
