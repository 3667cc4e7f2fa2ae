-- Readings that refuse at the first field that breaks its rule stay so when they are put together. Assumes nothing.
use Rattle.std.proofs.Common.{◌≡◌, ℕ, zero, suc, ◌+◌, ◌-◌, ◌*◌, ◌<◌, ◌≤◌, Bool, true, false, cond, List, [], ◌∷◌, length, take, drop, Ok, Err, Result, sym, refl, ap, ◌∙◌, subst, ⊎_elim, arith, length-take, length-take-le, take-take, le-leb}
use borrow.Author.Tests.{lt-leb}
use Rattle.std.specs.Int.Digits.{number_from_digits}
use Rattle.std.proofs.lemmas.List.{drop-take}
use Rattle.std.proofs.str.Laws.{order}
use Rattle.bits.specs.Faults.{ended}
use Rattle.bits.specs.Codec.{Reads, field, bytes_of, text}
use Rattle.bits.specs.declared.fault.Report.{Report}
use Rattle.bits.proofs.Codecs.{field_ok, field_short}
use Rattle.notes.specs.Faults.{broken}
use Rattle.notes.specs.Readings.{checked, guard, mapped, made, after, seq, times}
use Rattle.notes.specs.ReadingsLemmas.{checked_ok, mapped_ok, seq_ok, after_ok}

-- the fault stands in the row from p on, and the row cut before it ends there
abbrev pub Cut : {X : Type 0} → Reads X → List ℕ → ℕ → Report → Type 0
Cut f ds p e = (p ≤ e.place) × (e.place ≤ length ds) × (f (take e.place ds) p ≡ Err (ended e.place))

-- f goes ahead within the row; what it reads does not turn on the bits behind it; and where it refuses, the row
-- cut before the place of the fault ends there
pub record Careful {X : Type 0} (f : Reads X) : Type 0 where
  pub ahead : (ds : List ℕ) (p : ℕ) (x : X) (q : ℕ) → p ≤ length ds → f ds p ≡ Ok (x, q) → (p ≤ q) × (q ≤ length ds)
  pub kept : (ds : List ℕ) (p : ℕ) (x : X) (q : ℕ) → p ≤ length ds → f ds p ≡ Ok (x, q) → (n : ℕ) → q ≤ n → f (take n ds) p ≡ Ok (x, q)
  pub cut : (ds : List ℕ) (p : ℕ) (e : Report) → p ≤ length ds → f ds p ≡ Err e → Cut f ds p e

-- f reads nothing where the row ends
abbrev pub Starts : {X : Type 0} → Reads X → Type 0
Starts f = (ds : List ℕ) (p : ℕ) → p ≤ length ds → f (take p ds) p ≡ Err (ended p)

-- an item of w bits that is read where they are there
module _ {X : Type 0} (f : Reads X) (w : ℕ) (v : List ℕ → X)
    (whole : (ds : List ℕ) (p : ℕ) → p + w ≤ length ds → f ds p ≡ Ok (v (drop p ds), p + w))
    (short : (ds : List ℕ) (p : ℕ) → length ds < p + w → f ds p ≡ Err (ended p))
    (same : (m : ℕ) (l : List ℕ) → w ≤ m → v (take m l) ≡ v l) where
  starts_span : 0 < w → Starts f
  starts_span some ds p h = short (take p ds) p (omega (arith, length-take-le p ds h))

  read_span : (ds : List ℕ) (p : ℕ) (x : X) (q : ℕ) → f ds p ≡ Ok (x, q) → (p + w ≤ length ds) × (p + w ≡ q)
  read_span ds p x q e =
      ⊎_elim
      (λ (less : length ds < p + w). let no = short ds p less in let clash : ◌≡◌ {A = ℕ} 0 1 = cc in absurd (omega arith))
      (λ (fits : p + w ≤ length ds). let yes = whole ds p fits in let pair : ◌≡◌ {A = X × ℕ} (v (drop p ds), p + w) (x, q) = cc in (fits, ap (λ z. z.1) pair))
      (order (length ds) (p + w))

  kept_span : (ds : List ℕ) (p n : ℕ) → p + w ≤ length ds → p + w ≤ n → f (take n ds) p ≡ f ds p
  kept_span ds p n fits h =
      let long : p + w ≤ length (take n ds) = rw length-take (omega arith) in
      let e : n ≡ p + (n - p) = omega arith in
      let rest : drop p (take n ds) ≡ take (n - p) (drop p ds) = ap (λ k. drop p (take k ds)) e ∙ drop-take p (n - p) ds in
      whole (take n ds) p long ∙ (λ i. Ok ((ap v rest ∙ same (n - p) (drop p ds) (omega arith)) i, p + w)) ∙ sym (whole ds p fits)

  careful_span : Careful f
  careful_span = record {
    ahead = λ ds p x q h e. let r = read_span ds p x q e in (omega arith, omega arith);
    kept = λ ds p x q h e n k. let r = read_span ds p x q e in kept_span ds p n r.0 (omega arith) ∙ e;
    cut = λ ds p e h bad.
        ⊎_elim
        (λ (less : length ds < p + w).
        let no = short ds p less in
        let here : ended p ≡ e = cc in
        subst (Cut f ds p) here (omega arith, h, starts_span (omega arith) ds p h))
        (λ (fits : p + w ≤ length ds). let yes = whole ds p fits in let clash : ◌≡◌ {A = ℕ} 0 1 = cc in absurd (omega arith))
        (order (length ds) (p + w));
  }

pub careful_field : (w : ℕ) → w ≤ 128 → Careful (field w)
careful_field w few = careful_span (field w) w (λ l. number_from_digits 2 (take w l)) (λ ds p h. field_ok w ds p few h) (λ ds p h. field_short w ds p h) (λ m l h. ap (number_from_digits 2) (take-take w m l h))

pub starts_field : (w : ℕ) → 0 < w → Starts (field w)
starts_field w some ds p h = field_short w (take p ds) p (omega (arith, length-take-le p ds h))

bytes_of_take : (n m : ℕ) (l : List ℕ) → 8 * n ≤ m → bytes_of n (take m l) ≡ bytes_of n l
bytes_of_take zero m l h = refl
bytes_of_take (suc n) m l h =
    let e : m ≡ 8 + (m - 8) = omega arith in
    let rest : drop 8 (take m l) ≡ take (m - 8) (drop 8 l) = ap (λ k. drop 8 (take k l)) e ∙ drop-take 8 (m - 8) l in
    (λ i. number_from_digits 2 (take-take 8 m l (omega arith) i) ∷ (ap (bytes_of n) rest ∙ bytes_of_take n (m - 8) (drop 8 l) (omega arith)) i)

text_ends : (n : ℕ) (ds : List ℕ) (p : ℕ) → length ds < p + 8 * n → text n ds p ≡ Err (ended p)
unfolding text
text_ends n ds p h = ap (λ c. cond c (Ok (bytes_of n (drop p ds), p + 8 * n)) (Err (ended p))) (lt-leb _ _ h)

text_stands : (n : ℕ) (ds : List ℕ) (p : ℕ) → p + 8 * n ≤ length ds → text n ds p ≡ Ok (bytes_of n (drop p ds), p + 8 * n)
unfolding text
text_stands n ds p h = ap (λ c. cond c (Ok (bytes_of n (drop p ds), p + 8 * n)) (Err (ended p))) (le-leb _ _ h)

pub careful_text : (n : ℕ) → Careful (text n)
careful_text n = careful_span (text n) (8 * n) (bytes_of n) (text_stands n) (text_ends n) (bytes_of_take n)

pub starts_text : (n : ℕ) → 0 < n → Starts (text n)
starts_text n some ds p h = text_ends n (take p ds) p (omega (arith, length-take-le p ds h))

err_only : {X : Type 0} (t : Bool) (x : X) (y z : Report) → cond t (Ok x) (Err y) ≡ Err z → (t ≡ false) × (y ≡ z)
err_only true x y z e = let clash : ◌≡◌ {A = ℕ} 0 1 = cc in absurd (omega arith)
err_only false x y z e = (refl, cc)

module _ {X : Type 0} {f : Reads X} (t : X → Bool) (n : ℕ) (l : Careful f) (start : (x : X) → t x ≡ false → Starts f) where
  cut_guard : (ds : List ℕ) (p : ℕ) (e : Report) (r : Result (X × ℕ) Report) → f ds p ≡ r → p ≤ length ds → checked t n p r ≡ Err e → Cut (guard t n f) ds p e
  cut_guard ds p e (Ok x) read h bad =
      let o = err_only (t x.0) x (broken n p) e bad in
      subst (Cut (guard t n f) ds p) o.1 (omega arith, h, ap (checked t n p) (start x.0 o.0 ds p h))
  cut_guard ds p e (Err y) read h bad = let g = l.cut ds p e h (read ∙ bad) in (g.0, g.1, ap (checked t n p) g.2)

  pub careful_guard : Careful (guard t n f)
  careful_guard = record {
    ahead = λ ds p x q h e. l.ahead ds p x q h (checked_ok t n p _ x q e).0;
    kept = λ ds p x q h e m k.
        let o = checked_ok t n p (f ds p) x q e in
        ap (checked t n p) (l.kept ds p x q h o.0 m k) ∙ ap (λ c. cond c (Ok (x, q)) (Err (broken n p))) o.1;
    cut = λ ds p e h bad. cut_guard ds p e (f ds p) refl h bad;
  }

mapped_err : {X Y : Type 0} (to : X → Y) (r : Result (X × ℕ) Report) (e : Report) → mapped to r ≡ Err e → r ≡ Err e
mapped_err to (Ok x) e bad = let clash : ◌≡◌ {A = ℕ} 0 1 = cc in absurd (omega arith)
mapped_err to (Err y) e bad = let same : y ≡ e = cc in ap Err same

pub careful_made : {X Y : Type 0} {f : Reads X} (to : X → Y) → Careful f → Careful (made to f)
careful_made {f = f} to l = record {
  ahead = λ ds p y q h e. let o = mapped_ok to (f ds p) y q e in l.ahead ds p o.0 q h o.1;
  kept = λ ds p y q h e m k. let o = mapped_ok to (f ds p) y q e in ap (mapped to) (l.kept ds p o.0 q h o.1 m k) ∙ (λ i. Ok (o.2 i, q));
  cut = λ ds p e h bad. let g = l.cut ds p e h (mapped_err to (f ds p) e bad) in (g.0, g.1, ap (mapped to) g.2);
}

-- the second reading may use what the first one read
module _ {X Y : Type 0} {f : Reads X} {h : X → Reads Y} (l : Careful f) (m : (x : X) (ds : List ℕ) (p q : ℕ) → f ds p ≡ Ok (x, q) → Careful (h x)) where
  cut_seq : (ds : List ℕ) (p : ℕ) (e : Report) (r : Result (X × ℕ) Report) → f ds p ≡ r → p ≤ length ds → after h ds r ≡ Err e → Cut (seq f h) ds p e
  cut_seq ds p e (Ok x) read here bad =
      let a = l.ahead ds p x.0 x.1 here read in
      let second = m x.0 ds p x.1 read in
      let g = second.cut ds x.1 e a.1 (mapped_err _ (h x.0 ds x.1) e bad) in
      let one = l.kept ds p x.0 x.1 here read e.place g.0 in
      (omega arith, g.1, ap (after h (take e.place ds)) one ∙ ap (mapped (λ y. (x.0, y))) g.2)
  cut_seq ds p e (Err y) read here bad = let same : y ≡ e = cc in let g = l.cut ds p e here (read ∙ ap Err same) in (g.0, g.1, ap (after h (take e.place ds)) g.2)

  pub careful_seq : Careful (seq f h)
  careful_seq = record {
    ahead = λ ds p z q here e.
        let b = after_ok h ds (f ds p) z q e in
        let one = l.ahead ds p z.0 b.0 here b.1 in
        let two = (m z.0 ds p b.0 b.1).ahead ds b.0 z.1 q one.1 b.2 in
        (omega arith, two.1);
    kept = λ ds p z q here e n k.
        let b = after_ok h ds (f ds p) z q e in
        let one = l.ahead ds p z.0 b.0 here b.1 in
        let second = m z.0 ds p b.0 b.1 in
        let two = second.ahead ds b.0 z.1 q one.1 b.2 in
        seq_ok f h (take n ds) (take n ds) p b.0 q z.0 z.1 (l.kept ds p z.0 b.0 here b.1 n (omega arith)) refl (second.kept ds b.0 z.1 q one.1 b.2 n k);
    cut = λ ds p e here bad. cut_seq ds p e (f ds p) refl here bad;
  }

-- the second reading does not turn on the first
pub careful_then : {X Y : Type 0} {f : Reads X} {g : Reads Y} → Careful f → Careful g → Careful (seq f (λ _. g))
careful_then l m = careful_seq l (λ _ _ _ _ _. m)

pub careful_times : {X : Type 0} {f : Reads X} → Careful f → (n : ℕ) → Careful (times n f)
careful_times {X = X} l zero = record {
  ahead = λ ds p xs q h e. let same : ◌≡◌ {A = List X × ℕ} ([], p) (xs, q) = cc in let here : p ≡ q = ap (λ z. z.1) same in (omega arith, omega arith);
  kept = λ ds p xs q h e n k. e;
  cut = λ ds p e h bad. let clash : ◌≡◌ {A = ℕ} 0 1 = cc in absurd (omega arith);
}
careful_times l (suc n) = careful_made (λ z. z.0 ∷ z.1) (careful_then l (careful_times l n))
