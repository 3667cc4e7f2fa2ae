-- Readings that belong to their forms stay so when they are put together. Assumes nothing.
use Rattle.std.specs.Prelude.{◌≡◌, ℕ, zero, suc, ◌+◌, ◌-◌, ◌<◌, ◌≤◌, Bool, true, cond, List, [], ◌∷◌, ◌++◌, length, take, drop, Ok, Err, Result, refl}
use Rattle.std.proofs.Common.{sym, ap, subst, ◌∙◌, append_assoc, append-nil, add-zero, arith, length-append, take-add, drop-drop}
use Rattle.std.specs.List.{AllByRecursion, flat_map}
use Rattle.std.specs.Int.Digits.{AllBelowBase}
use Rattle.std.proofs.ByRecursion.{All-append}
use Rattle.bits.specs.Codec.{Reads, Lawful}
use Rattle.bits.specs.declared.fault.Report.{Report}
use Rattle.bits.proofs.Codecs.{ok_only}
use Rattle.notes.specs.Faults.{broken}
use Rattle.notes.specs.Readings.{checked, guard, mapped, made, after, seq, times}

pub checked_ok : {X : Type 0} (t : X → Bool) (n p : ℕ) (r : Result (X × ℕ) Report) (x : X) (q : ℕ) → checked t n p r ≡ Ok (x, q) → (r ≡ Ok (x, q)) × (t x ≡ true)
checked_ok t n p (Ok y) x q e =
    let h = ok_only (t y.0) y (x, q) (broken n p) e in (ap Ok h.1, ap (λ z. t z.0) (sym h.1) ∙ h.0)
checked_ok t n p (Err y) x q e = let clash : ◌≡◌ {A = ℕ} 0 1 = cc in absurd (omega arith)

pub lawful_guard : {X : Type 0} {ok : X → Type 0} {form : X → List ℕ} {f : Reads X} (t : X → Bool) (n : ℕ)
    → Lawful ok form f → Lawful (λ x. ok x × (t x ≡ true)) form (guard t n f)
lawful_guard {form = form} t n l = record {
  binary = λ x h. l.binary x h.0;
  back = λ x h a b. ap (checked t n (length a)) (l.back x h.0 a b) ∙ ap (λ c. cond c (Ok (x, length a + length (form x))) (Err (broken n (length a)))) h.1;
  forth = λ ds u p x q e.
      let h = checked_ok t n p _ x q e in
      let g = l.forth ds u p x q h.0 in
      ((g.0, h.1), g.1, g.2);
}

pub mapped_ok : {X Y : Type 0} (to : X → Y) (r : Result (X × ℕ) Report) (y : Y) (q : ℕ) → mapped to r ≡ Ok (y, q) → (x : X) × (r ≡ Ok (x, q)) × (to x ≡ y)
mapped_ok {Y = Y} to (Ok x) y q e = let h : ◌≡◌ {A = Y × ℕ} (to x.0, x.1) (y, q) = cc in (x.0, (λ i. Ok (x.0, (h i).1)), ap (λ z. z.0) h)
mapped_ok to (Err z) y q e = let clash : ◌≡◌ {A = ℕ} 0 1 = cc in absurd (omega arith)

-- the same values, written otherwise
pub lawful_made : {X Y : Type 0} {ok : X → Type 0} {form : X → List ℕ} {f : Reads X} (ok' : Y → Type 0) (to : X → Y) (from : Y → X)
    → ((y : Y) → ok' y → ok (from y) × (to (from y) ≡ y)) → ((x : X) → ok x → ok' (to x) × (from (to x) ≡ x))
    → Lawful ok form f → Lawful ok' (λ y. form (from y)) (made to f)
lawful_made {ok = ok} {form = form} ok' to from there here l = record {
  binary = λ y h. l.binary (from y) (there y h).0;
  back = λ y h a b. let g = there y h in ap (mapped to) (l.back (from y) g.0 a b) ∙ (λ i. Ok (g.1 i, length a + length (form (from y))));
  forth = λ ds u p y q e.
      let h = mapped_ok to _ y q e in
      let g = l.forth ds u p h.0 q h.1 in
      let k = here h.0 g.0 in
      let same : h.0 ≡ from y = sym k.1 ∙ ap from h.2 in (
        subst ok' h.2 k.0,
        subst (λ x. q ≡ p + length (form x)) same g.1,
        subst (λ x. take (length (form x)) (drop p ds) ≡ form x) same g.2,
      );
}

-- lawful in other words
pub lawful_iff : {X : Type 0} {ok ok' : X → Type 0} {form : X → List ℕ} {f : Reads X} → ((x : X) → ok' x → ok x) → ((x : X) → ok x → ok' x) → Lawful ok form f → Lawful ok' form f
lawful_iff there here l = record {
  binary = λ x h. l.binary x (there x h);
  back = λ x h a b. l.back x (there x h) a b;
  forth = λ ds u p x q e. let g = l.forth ds u p x q e in (here x g.0, g.1, g.2);
}

pub after_ok : {X Y : Type 0} (h : X → Reads Y) (ds : List ℕ) (r : Result (X × ℕ) Report) (z : X × Y) (q : ℕ)
    → after h ds r ≡ Ok (z, q) → (m : ℕ) × (r ≡ Ok (z.0, m)) × (h z.0 ds m ≡ Ok (z.1, q))
after_ok h ds (Ok x) z q e =
    let g = mapped_ok (λ y. (x.0, y)) (h x.0 ds x.1) z q e in
    let first : x.0 ≡ z.0 = ap (λ k. k.0) g.2 in
    (x.1, (λ i. Ok (first i, x.1)), ap (λ k. h k ds x.1) (sym first) ∙ g.1 ∙ (λ i. Ok ((g.2 i).1, q)))
after_ok h ds (Err y) z q e = let clash : ◌≡◌ {A = ℕ} 0 1 = cc in absurd (omega arith)

pub lawful_seq : {X Y : Type 0} {ok : X → Type 0} {form : X → List ℕ} {f : Reads X}
    {ok' : X → Y → Type 0} {form' : X → Y → List ℕ} {h : X → Reads Y}
    → Lawful ok form f → ((x : X) → ok x → Lawful (ok' x) (form' x) (h x))
    → Lawful (λ z. ok z.0 × ok' z.0 z.1) (λ z. form z.0 ++ form' z.0 z.1) (seq f h)
lawful_seq {form = form} {f = f} {form' = form'} {h = h} l m = record {
  binary = λ z k. All-append _ (form z.0) (form' z.0 z.1) (l.binary z.0 k.0) ((m z.0 k.0).binary z.1 k.1);
  back = λ z k a b.
      let x = form z.0 in
      let y = form' z.0 z.1 in
      let whole : a ++ ((x ++ y) ++ b) ≡ a ++ (x ++ (y ++ b)) = simp append_assoc in
      let cut : a ++ (x ++ (y ++ b)) ≡ (a ++ x) ++ (y ++ b) = simp append_assoc in
      let first : f (a ++ ((x ++ y) ++ b)) (length a) ≡ Ok (z.0, length a + length x) = ap (λ d. f d (length a)) whole ∙ l.back z.0 k.0 a (y ++ b) in
      let second : h z.0 (a ++ ((x ++ y) ++ b)) (length a + length x) ≡ Ok (z.1, length (a ++ x) + length y) =
      (λ i. h z.0 ((whole ∙ cut) i) (sym (length-append a x) i)) ∙ (m z.0 k.0).back z.1 k.1 (a ++ x) b in
      let long : length (a ++ x) + length y ≡ length a + length (x ++ y) = simp length-append (omega arith) in
      ap (after h (a ++ ((x ++ y) ++ b))) first ∙ ap (mapped (λ w. (z.0, w))) second ∙ (λ i. Ok (z, long i));
  forth = λ ds u p z q e.
      let g = after_ok h ds _ z q e in
      let one = l.forth ds u p z.0 g.0 g.1 in
      let two = (m z.0 one.0).forth ds u g.0 z.1 q g.2 in
      let x = form z.0 in
      let y = form' z.0 z.1 in
      let long : length (x ++ y) ≡ length x + length y = length-append x y in (
        (one.0, two.0),
        omega (arith, one.1, two.1),
        ap (λ n. take n (drop p ds)) long ∙ take-add (length x) (length y) (drop p ds)
            ∙ (λ i. one.2 i ++ (ap (take (length y)) (drop-drop (length x) p ds ∙ ap (λ n. drop n ds) (sym one.1)) ∙ two.2) i),
      );
}

-- one reading behind another, from the same bits
pub seq_ok : {X Y : Type 0} (f : Reads X) (h : X → Reads Y) (ds es : List ℕ) (p m q : ℕ) (x : X) (y : Y)
    → f ds p ≡ Ok (x, m) → es ≡ ds → h x es m ≡ Ok (y, q) → seq f h ds p ≡ Ok ((x, y), q)
seq_ok f h ds es p m q x y one same two = ap (after h ds) one ∙ ap (λ l. mapped (λ w. (x, w)) (h x l m)) (sym same) ∙ ap (mapped (λ w. (x, w))) two

abbrev pub Items : {X : Type 0} → (X → Type 0) → ℕ → List X → Type 0
Items ok n xs = (length xs ≡ n) × AllByRecursion ok xs

-- a list of items is read as one item and then the others
module _ {X : Type 0} {ok : X → Type 0} {form : X → List ℕ} {f : Reads X} (l : Lawful ok form f) where
  nothing_back : (xs : List X) → length xs ≡ 0 → (n : ℕ) → ◌≡◌ {A = Result (List X × ℕ) Report} (Ok ([], n)) (Ok (xs, n + length (flat_map form xs)))
  nothing_back [] h n = (λ i. Ok ([], sym (add-zero n) i))
  nothing_back (x ∷ xs) h n = absurd (omega arith)

  one_back : (n : ℕ) → Lawful (Items ok n) (flat_map form) (times n f) → (xs : List X) → Items ok (suc n) xs → (a b : List ℕ) → times (suc n) f (a ++ (flat_map form xs ++ b)) (length a) ≡ Ok (xs, length a + length (flat_map form xs))
  one_back n others [] h a b = absurd (omega (arith, h.0))
  one_back n others (x ∷ xs) h a b =
      let many : length xs ≡ n = omega (arith, h.0) in
      ap (mapped (λ z. z.0 ∷ z.1)) ((lawful_seq l (λ _ _. others)).back (x, xs) (h.1.0, (many, h.1.1)) a b)

  all_binary : (xs : List X) → AllByRecursion ok xs → AllBelowBase 2 (flat_map form xs)
  all_binary [] h = tt
  all_binary (x ∷ xs) h = All-append _ (form x) (flat_map form xs) (l.binary x h.0) (all_binary xs h.1)

  pub lawful_times : (n : ℕ) → Lawful (Items ok n) (flat_map form) (times n f)
  lawful_times zero = record {
    binary = λ xs h. all_binary xs h.1;
    back = λ xs h a b. nothing_back xs h.0 (length a);
    forth = λ ds u p xs q e.
        let same : ◌≡◌ {A = List X × ℕ} ([], p) (xs, q) = cc in
        let empty : [] ≡ xs = ap (λ z. z.0) same in
        let here : p ≡ q = ap (λ z. z.1) same in
        subst (λ k. Items ok 0 k × (q ≡ p + length (flat_map form k)) × (take (length (flat_map form k)) (drop p ds) ≡ flat_map form k)) empty ((refl, tt), sym here ∙ sym (add-zero p), refl);
  }
  lawful_times (suc n) = record {
    binary = λ xs h. all_binary xs h.1;
    back = one_back n (lawful_times n);
    forth = λ ds u p xs q e.
        let h = mapped_ok (λ z. z.0 ∷ z.1) (seq f (λ _. times n f) ds p) xs q e in
        let g = (lawful_seq l (λ _ _. lawful_times n)).forth ds u p h.0 q h.1 in
        subst (λ k. Items ok (suc n) k × (q ≡ p + length (flat_map form k)) × (take (length (flat_map form k)) (drop p ds) ≡ flat_map form k)) h.2
        ((ap suc g.0.1.0, (g.0.0, g.0.1.1)), g.1, g.2);
  }

-- a list that is read item by item
module _ {X : Type 0} (f : Reads X) (ds : List ℕ) where
  -- of n items from p on, the first ones are xs, and the others are read from q on
  abbrev pub Sofar : ℕ → ℕ → ℕ → List X → ℕ → Type 0
  Sofar n p i xs q = times n f ds p ≡ mapped (λ ys. xs ++ ys) (times (n - i) f ds q)

  mapped_same : (r : Result (List X × ℕ) Report) → r ≡ mapped (λ ys. [] ++ ys) r
  mapped_same (Ok x) = refl
  mapped_same (Err e) = refl

  pub none_yet : (n p : ℕ) → Sofar n p 0 [] p
  none_yet n p = let e : n ≡ n - 0 = omega arith in ap (λ k. times k f ds p) e ∙ mapped_same (times (n - 0) f ds p)

  shifted : (xs : List X) (x : X) (r : Result (List X × ℕ) Report)
      → mapped (λ ys. xs ++ ys) (mapped (λ (z : X × List X). z.0 ∷ z.1) (mapped (λ y. (x, y)) r)) ≡ mapped (λ ys. (xs ++ (x ∷ [])) ++ ys) r
  shifted xs x (Ok y) = (λ i. Ok (sym (append_assoc xs (x ∷ []) y.0) i, y.1))
  shifted xs x (Err e) = refl

  step : (n p i : ℕ) (xs : List X) (q : ℕ) → i < n → Sofar n p i xs q → times n f ds p ≡ mapped (λ ys. xs ++ ys) (mapped (λ z. z.0 ∷ z.1) (after (λ _. times (n - (i + 1)) f) ds (f ds q)))
  step n p i xs q h so = let e : n - i ≡ suc (n - (i + 1)) = omega arith in so ∙ ap (λ k. mapped (λ ys. xs ++ ys) (times k f ds q)) e

  pub one_more : (n p i : ℕ) (xs : List X) (q : ℕ) (x : X) (m : ℕ) → i < n → Sofar n p i xs q → f ds q ≡ Ok (x, m) → Sofar n p (i + 1) (xs ++ (x ∷ [])) m
  one_more n p i xs q x m h so read =
      step n p i xs q h so ∙ ap (λ r. mapped (λ ys. xs ++ ys) (mapped (λ z. z.0 ∷ z.1) (after (λ _. times (n - (i + 1)) f) ds r))) read ∙ shifted xs x (times (n - (i + 1)) f ds m)

  pub failed : (n p i : ℕ) (xs : List X) (q : ℕ) (e : Report) → i < n → Sofar n p i xs q → f ds q ≡ Err e → times n f ds p ≡ Err e
  failed n p i xs q e h so bad = step n p i xs q h so ∙ ap (λ r. mapped (λ ys. xs ++ ys) (mapped (λ z. z.0 ∷ z.1) (after (λ _. times (n - (i + 1)) f) ds r))) bad

  pub all_read : (n p i : ℕ) (xs : List X) (q : ℕ) → n ≤ i → Sofar n p i xs q → times n f ds p ≡ Ok (xs, q)
  all_read n p i xs q h so = let e : n - i ≡ 0 = omega arith in so ∙ ap (λ k. mapped (λ ys. xs ++ ys) (times k f ds q)) e ∙ (λ j. Ok (append-nil xs j, q))
