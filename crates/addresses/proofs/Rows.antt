-- Rows of parts, one part more at a time. Assumes nothing.
use Rattle.std.proofs.Common.{◌≡◌, ℕ, suc, ◌+◌, ◌*◌, ◌^◌, ◌<◌, ◌≤◌, Bool, true, false, cond, eqb, leb, List, [], ◌∷◌, length, Some, None, Option, MatchOption, sym, refl, ap, ◌∙◌, le_trans, lt_of_lt_of_le, pow-suc, zero-add, add-one, arith, lit≤}
use native.Mathlib.Nat.{pow-le-pow_right}
use lib.Arith.{digits_lt}
use Rattle.std.specs.Int.Digits.{number_from_digits, number_from_digits_after}
use Rattle.std.specs.List.{slice_split}
use Rattle.std.specs.Option.{option_map}
use Rattle.std.proofs.lemmas.Bool.{le-leb, lt-leb, leb-false, cond-true, cond-false}
use Rattle.notes.specs.declared.family.Family.{Family}
use Rattle.notes.specs.declared.family.Family.TheVariants.{Four, Six}
use Rattle.addresses.specs.declared.row.Row.{Row}
use Rattle.texts.specs.Pieces.{pieces}
use Rattle.texts.proofs.Cuts.{pieces_is}
use Rattle.addresses.specs.Forms.{separator, size, base, part_of}
use Rattle.addresses.specs.Rows.{in_front, parts_of, RowValue, row_value, empty, row_with}

pub base_pos : (f : Family) → 0 < base f
base_pos Four = omega arith
base_pos Six = omega arith

top : (f : Family) → base f ^ size f ≤ 2 ^ 128
top Four = lit≤ tt
top Six = lit≤ tt

pub next_small : (f : Family) (bits count n : ℕ) → bits < base f ^ count → n < base f → bits * base f + n < base f ^ (count + 1)
next_small f bits count n small part = rw (add-one, pow-suc) (digits_lt small part)

pub next_fits : (f : Family) (bits count n : ℕ) → bits < base f ^ count → count < size f → n < base f → bits * base f + n < 2 ^ 128
next_fits f bits count n small free part =
    let few : count + 1 ≤ size f = omega arith in
    lt_of_lt_of_le (next_small f bits count n small part) (le_trans (pow-le-pow_right (base_pos f) few) (top f))

abbrev pub next : RowValue → ℕ → RowValue
next row n = record { family = row.family; bits = row.bits * base row.family + n; count = row.count + 1 }

pub pushed : (row : RowValue) (p : List ℕ) (n : ℕ) → Some n ≡ part_of row.family p → row.count < size row.family → Some (next row n) ≡ row_with row (parts_of row.family (p ∷ []))
unfolding parts_of
pushed row p n e free =
    sym (cond-true (leb (row.count + 1) (size row.family)) (Some (next row n)) None (le-leb _ _ (omega arith)))
    ∙ ap (λ o. row_with row (in_front o (Some []))) e

pub not_pushed : (row : RowValue) (p : List ℕ) → None ≡ part_of row.family p → None ≡ row_with row (parts_of row.family (p ∷ []))
unfolding parts_of
not_pushed row p e = ap (λ o. row_with row (in_front o (Some []))) e

pub full : (row : RowValue) (p : List ℕ) → size row.family ≤ row.count → None ≡ row_with row (parts_of row.family (p ∷ []))
unfolding parts_of
full row p h =
    elim (part_of row.family p) as (λ o. None ≡ row_with row (in_front o (Some []))) [
      | None ↦ refl
      | Some n ↦ sym (cond-false (leb (row.count + 1) (size row.family)) (Some (next row n)) None (lt-leb _ _ (omega arith)))
    ]

with_room : {A : Type 0} (t : Bool) (a b : A) → Some a ≡ cond t (Some b) None → (t ≡ true) × (a ≡ b)
with_room true a b e = (refl, cc)
with_room false a b e = cc

without_room : {A : Type 0} (t : Bool) (b : A) → None ≡ cond t (Some b) None → t ≡ false
without_room true b e = cc
without_room false b e = refl

step_by : (row then : RowValue) (o : Option ℕ) (os : Option (List ℕ)) → Some then ≡ row_with row (in_front o (Some [])) → row_with then os ≡ row_with row (in_front o os)
step_by row then None os e = cc
step_by row then (Some n) os e =
    let same : then ≡ next row n = (with_room (leb (row.count + 1) (size row.family)) then (next row n) e).1 in
    ap (λ r. row_with r os) same ∙ moved os
  where
    moved : (os : Option (List ℕ)) → row_with (next row n) os ≡ row_with row (in_front (Some n) os)
    moved None = refl
    moved (Some ns) =
        let count : (row.count + 1) + length ns ≡ row.count + suc (length ns) = omega arith in
        ap (λ m. cond (leb m (size row.family)) (Some (record { family = row.family; bits = number_from_digits_after (base row.family) (row.bits * base row.family + n) ns; count = m })) None) count

stop_by : (row : RowValue) (o : Option ℕ) (os : Option (List ℕ)) → None ≡ row_with row (in_front o (Some [])) → None ≡ row_with row (in_front o os)
stop_by row None os e = refl
stop_by row (Some n) None e = refl
stop_by row (Some n) (Some ns) e =
    let none = leb-false _ _ (without_room (leb (row.count + 1) (size row.family)) (next row n) e) in
    sym (cond-false (leb (row.count + suc (length ns)) (size row.family)) _ None (lt-leb _ _ (omega (arith, none))))

step : (row then : RowValue) (p : List ℕ) (ps : List (List ℕ)) → Some then ≡ row_with row (parts_of row.family (p ∷ [])) → row_with then (parts_of row.family ps) ≡ row_with row (parts_of row.family (p ∷ ps))
unfolding parts_of
step row then p ps e = step_by row then (part_of row.family p) (parts_of row.family ps) e

stop : (row : RowValue) (p : List ℕ) (ps : List (List ℕ)) → None ≡ row_with row (parts_of row.family (p ∷ [])) → None ≡ row_with row (parts_of row.family (p ∷ ps))
unfolding parts_of
stop row p ps e = stop_by row (part_of row.family p) (parts_of row.family ps) e

-- a row that was read is of the family that was asked for
pub of_family : (row : RowValue) (o : Option (List ℕ)) (then : RowValue) → Some then ≡ row_with row o → then.family ≡ row.family
of_family row None then e = cc
of_family row (Some ns) then e = ap (λ r. r.family) (with_room (leb (row.count + length ns) (size row.family)) then _ e).1

-- the row so far and the pieces that are left decide what is read
pub record Reading (f : Family) (read : Option RowValue) (ps : List (List ℕ)) (row : Row) : Type 0 where
  pub family : row.family ≡ f
  pub rest : row_with (row_value row) (parts_of f ps) ≡ read

pub begun : (f : Family) (read : Option RowValue) (sep : ℕ) (text : List ℕ) (row : Row) → row_value row ≡ empty f → sep ≡ separator f → read ≡ row_with (empty f) (parts_of f (pieces (separator f) text)) → Reading f read (slice_split (λ b. eqb b sep) text) row
begun f read sep text row e s r = record {
  family = ap (λ v. v.family) e;
  rest = rw (e, ← pieces_is sep text, s) (sym r);
}

-- one piece more goes on with the next row, or ends the reading
pub turn :
    (f : Family) (read : Option RowValue) (p : List ℕ) (row : Row) (then : Option Row) → option_map row_value then ≡ row_with (row_value row) (parts_of row.family (p ∷ []))
    → MatchOption then ((ps : List (List ℕ)) → Reading f read (p ∷ ps) row → None ≡ read) (λ next. (ps : List (List ℕ)) → Reading f read (p ∷ ps) row → Reading f read ps next)
turn f read p row None e = λ ps r. rw (← r.family) (stop (row_value row) p ps e) ∙ r.rest
turn f read p row (Some next) e = λ ps r. record {
  family = of_family (row_value row) _ (row_value next) e ∙ r.family;
  rest = rw (← r.family) (step (row_value row) (row_value next) p ps e) ∙ r.rest;
}

pub ended : (f : Family) (read : Option RowValue) (o : Option Row) → MatchOption o (None ≡ read) (λ row. Reading f read [] row) → option_map row_value o ≡ read
unfolding parts_of
ended f read None r = r
ended f read (Some row) r =
    let here : row.count + 0 ≡ row.count = omega arith in
    sym (cond-true (leb row.count (size row.family)) (Some (row_value row)) None (le-leb _ _ row.few))
    ∙ ap (λ n. cond (leb n (size row.family)) (Some (record { family = row.family; bits = row.bits; count = n })) None) (sym here)
    ∙ r.rest

-- what a row that was read says of the parts
pub record Counted (f : Family) (o : Option (List ℕ)) (row : RowValue) : Type 0 where
  pub parts : List ℕ
  pub there : o ≡ Some parts
  pub bits : row.bits ≡ number_from_digits (base f) parts
  pub count : row.count ≡ length parts

pub counted : (f : Family) (o : Option (List ℕ)) (row : RowValue) → Some row ≡ row_with (empty f) o → Counted f o row
counted f None row e = cc
counted f (Some ns) row e =
    let same = (with_room (leb (0 + length ns) (size f)) row (record { family = f; bits = number_from_digits (base f) ns; count = 0 + length ns }) e).1 in
    record { parts = ns; there = refl; bits = ap (λ r. r.bits) same; count = ap (λ r. r.count) same ∙ zero-add (length ns) }
