-- A register whose tables were cleared is just opened. Assumes nothing.
use Rattle.std.proofs.Common.{◌≡◌, ℕ, zero, suc, ◌<◌, min, Bool, List, [], ◌∷◌, ◌++◌, map, length, get_or, take, drop, replicate, Vec, vec_items, count_by, sym, refl, ap, ◌∙◌, arith}
use Rattle.std.specs.Vec.{with_items}
use Rattle.std.proofs.lemmas.List.{with_items_is}
use Rattle.register.specs.declared.row.RuleRow.{RuleRow}
use Rattle.register.specs.declared.target_row.TargetRow.{TargetRow}
use Rattle.register.specs.Entries.{Entry, hits, freed}
use Rattle.register.specs.Tables.{Tables, Cleared, Opened}
use Rattle.register.specs.Targets.{unlinked}
use Rattle.register.proofs.Counts.{count_cons}
use Rattle.register.proofs.Parts.{take_min, drop_min}

module _ {X : Type 0} (f : X → X) where
  front_mapped : (n : ℕ) (xs : List X) → take n (map f (take n xs) ++ drop n xs) ≡ map f (take n xs)
  front_mapped zero xs = refl
  front_mapped (suc n) [] = refl
  front_mapped (suc n) (x ∷ xs) = ap (λ l. f x ∷ l) (front_mapped n xs)

  same_length : (n : ℕ) (xs : List X) → length (map f (take n xs) ++ drop n xs) ≡ length xs
  same_length zero xs = refl
  same_length (suc n) [] = refl
  same_length (suc n) (x ∷ xs) = ap suc (same_length n xs)

none_used : (f : Entry → Bool) (xs : List RuleRow) → count_by (hits f) (map freed xs) ≡ 0
none_used f [] = refl
none_used f (x ∷ xs) = omega (arith, count_cons (hits f) (freed x) (map freed xs), none_used f xs)

-- targets of which each is cleared
pub all_unlinked : (ts : List TargetRow) → replicate (length ts) unlinked ≡ map (λ _. unlinked) ts
all_unlinked [] = refl
all_unlinked (t ∷ ts) = ap (λ l. unlinked ∷ l) (all_unlinked ts)

none_linked : (n : ℕ) (ts : List TargetRow) (k : ℕ) → k < min n (length ts) → get_or (map (λ _. unlinked) (take n ts) ++ drop n ts) k unlinked ≡ unlinked
none_linked zero ts k h = absurd (omega arith)
none_linked (suc n) [] k h = absurd (omega arith)
none_linked (suc n) (t ∷ ts) zero h = refl
none_linked (suc n) (t ∷ ts) (suc k) h = none_linked n ts k (omega arith)

-- a table whose used part is cleared
pub cleared_part :
    {X Z : Type 0} (f : X → X) (n size : ℕ) (v : Vec X Z) (now front : List X) → length (vec_items v) ≡ v.len → size ≡ min n v.len → now ≡ vec_items v → front ≡ map f (take size now)
    → vec_items (with_items v (front ++ drop size now)) ≡ map f (take n (vec_items v)) ++ drop n (vec_items v)
cleared_part f n size v now front long s same e =
    let items = vec_items v in
    let whole : front ++ drop size now ≡ map f (take n items) ++ drop n items =
    (λ i. e i ++ drop size now) ∙ (λ i. map f (take ((s ∙ ap (min n) (sym long)) i) (same i)) ++ drop ((s ∙ ap (min n) (sym long)) i) (same i))
    ∙ (λ i. map f (take_min n items i) ++ drop_min n items i) in
    with_items_is v (front ++ drop size now) (ap length whole ∙ same_length f n items ∙ long) ∙ whole

pub cleared_opened :
    (home : List ℕ) (rows : List RuleRow) (targets : List TargetRow) (t : Tables) → t.home ≡ home → Cleared rows targets t
    → Opened (record { home = home; rows = length rows; targets = length targets }) t
cleared_opened home rows targets t e c =
    let long = ap length c.rows_free ∙ same_length freed 256 rows in
    let wide = ap length c.targets_free ∙ same_length (λ _. unlinked) 4096 targets in
    record {
      alike = λ i. record { home = e i; rows = long i; targets = wide i };
      rows_free = λ f. ap (λ l. count_by (hits f) (take 256 l)) c.rows_free ∙ ap (count_by (hits f)) (front_mapped freed 256 rows) ∙ none_used f (take 256 rows);
      targets_free = λ k h. ap (λ l. get_or l k unlinked) c.targets_free ∙ none_linked 4096 targets k h;
    }
