-- What the calls answer, from what their parts found. Assumes nothing.
use Rattle.std.proofs.Common.{◌≡◌, ℕ, ◌<◌, Bool, true, false, cond, List, length, get_or, not, is_some, position, Some, None, Ok, Err, Option, sym, refl, ap, ◌∙◌, arith, length-take, get_or-take}
use Rattle.std.specs.Option.{ok_or}
use Rattle.std.proofs.lemmas.List.{get_or_default}
use Rattle.std.proofs.lemmas.Bool.{eq-eqb, ne_eqb, not-true}
use Rattle.std.proofs.lemmas.List.Folds.{list_any_at}
use Rattle.std.proofs.lemmas.List.Quantifiers.{position-Some}
use Rattle.notes.specs.Rules.{RuleValue, note_reads}
use Rattle.register.specs.declared.row.HeldRule.{HeldRule}
use Rattle.register.specs.declared.row.RuleRow.{RuleRow}
use Rattle.register.specs.Answers.{add, withdraw, accepted, refused, stands, full, too_high, note_refusal, add_refusal, withdraw_refusal, unless_refused}
use Rattle.register.specs.Entries.{is_named, is_used, hits, freed}
use Rattle.register.specs.Faults.{plainly}
use Rattle.register.specs.Tables.{Tables, used_rows, opening, holdings, At, Holding, with_row, Served}
use Rattle.members.proofs.Counts.{any_counted, no_place, all_pass, one_fails}

-- the cause of a failed search
pub cause_is : {E : Type 0} (o : Option ℕ) (x y : E) → Err x ≡ ok_or o y → o ≡ None → x ≡ y
cause_is o x y e none = let f = e ∙ ap (λ p. ok_or p y) none in cc

-- what stands at a place of the used rows
pub row_at : (t : Tables) (i : ℕ) (d : RuleRow) → i < length (used_rows t) → At t i (get_or (used_rows t) i d)
row_at t i d h =
    let below : i < 256 = omega (arith, length-take 256 t.rows) in
    let inside : i < length t.rows = omega (arith, length-take 256 t.rows) in
    (h, get_or-take 256 t.rows i d below ∙ get_or_default t.rows i d _ inside)

-- what is found among the used rows is within the table
pub found_inside : (t : Tables) (f : RuleRow → Bool) (i : ℕ) → position f (used_rows t) ≡ Some i → i < length t.rows
found_inside t f i e =
    let found = position-Some f (used_rows t) i (record { held = None }) e in
    omega (arith, found.0, length-take 256 t.rows)

module _ (t : Tables) (p n : ℕ) where
  abbrev named : RuleRow → Bool
  named = hits (is_named p n)

  stands_at : (i : ℕ) → position named (used_rows t) ≡ Some i → stands (holdings t) p n ≡ true
  stands_at i e = let d : RuleRow = record { held = None } in
      let found = position-Some named (used_rows t) i d e in
      sym (any_counted named (used_rows t)) ∙ list_any_at named (used_rows t) i d found.0 found.1

  none_stands : position named (used_rows t) ≡ None → stands (holdings t) p n ≡ false
  none_stands e = sym (any_counted named (used_rows t)) ∙ no_place named (used_rows t) e

  pub found_stands : is_some (position named (used_rows t)) ≡ stands (holdings t) p n
  found_stands = at (position named (used_rows t)) refl
    where
      at : (o : Option ℕ) → position named (used_rows t) ≡ o → is_some o ≡ stands (holdings t) p n
      at None e = sym (none_stands e)
      at (Some i) e = sym (stands_at i e)

  module _ (low : too_high p n ≡ false) where
    module _ (note : List ℕ) (r : RuleValue) (reads : note_reads note ≡ Ok r) where
      by_tests : (taken none : Bool) → stands (holdings t) p n ≡ taken → full (opening t) (holdings t) ≡ none
          → unless_refused (note_refusal p n (Ok r) taken none) ≡ unless_refused (add_refusal (opening t) (holdings t) p n note)
      by_tests taken none a b =
          λ i. unless_refused (cond (sym low i) (Some (plainly 8)) (note_refusal p n (sym reads i) (sym a i) (sym b i)))

      pub add_taken : stands (holdings t) p n ≡ true → Served (add p n note) t (refused (plainly 10)) t
      add_taken e = record { answer = by_tests true _ e refl; later = refl }

      module _ (new : stands (holdings t) p n ≡ false) where
        pub add_full : position (λ x. not (is_used x)) (used_rows t) ≡ None → Served (add p n note) t (refused (plainly 12)) t
        add_full e =
            let whole : full (opening t) (holdings t) ≡ true = eq-eqb _ _ (all_pass is_used (used_rows t) e ∙ length-take 256 t.rows) in
            record { answer = by_tests false true new whole; later = refl }

        pub add_placed :
            (i : ℕ) (h : HeldRule) → position (λ x. not (is_used x)) (used_rows t) ≡ Some i → Holding p n note h
            → Served (add p n note) t accepted (with_row t i (record { held = Some h }))
        add_placed i h e holds =
            let y : RuleRow = record { held = Some h } in
            let found = position-Some _ (used_rows t) i y e in
            let room : full (opening t) (holdings t) ≡ false =
            ne_eqb _ _ (λ q. omega (arith, q, one_fails is_used (used_rows t) i y found.0 found.1, length-take 256 t.rows)) in
            record {
              answer = by_tests false false new room;
              later = (i, get_or (used_rows t) i y, h, row_at t i y found.0, not-true _ found.1, holds, refl);
            }

    by_test : (standing : Bool) → stands (holdings t) p n ≡ standing
        → unless_refused (cond standing None (Some (plainly 11))) ≡ unless_refused (withdraw_refusal (holdings t) p n)
    by_test standing a = λ i. unless_refused (cond (sym low i) (Some (plainly 8)) (cond (sym a i) None (Some (plainly 11))))

    pub withdraw_missing : position named (used_rows t) ≡ None → Served (withdraw p n) t (refused (plainly 11)) t
    withdraw_missing none = record { answer = by_test false (none_stands none); later = refl }

    pub withdraw_freed : (i : ℕ) (x : RuleRow) → position named (used_rows t) ≡ Some i → x ≡ get_or t.rows i x → Served (withdraw p n) t accepted (with_row t i (freed x))
    withdraw_freed i x f e =
        let found = position-Some named (used_rows t) i x f in
        let below : i < 256 = omega (arith, found.0, length-take 256 t.rows) in
        record {
          answer = by_test true (stands_at i f);
          later = (i, x, (found.0, e), ap named (e ∙ sym (get_or-take 256 t.rows i x below)) ∙ found.1, refl);
        }
