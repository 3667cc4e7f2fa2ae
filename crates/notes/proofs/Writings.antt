-- One writing behind another. Assumes nothing.
use Rattle.std.proofs.Common.{◌≡◌, ℕ, ◌+◌, ◌*◌, ◌<◌, ◌≤◌, List, [], ◌∷◌, ◌++◌, map, length, get_or, take, drop, sym, refl, ap, ◌∙◌, append_assoc, append-nil, arith, length-append, take-append-drop}
use Rattle.std.specs.List.{flat_map}
use Rattle.std.proofs.lemmas.List.{take_more}
use Rattle.bits.specs.declared.writer.BitWriter.{BitWriter}
use Rattle.bits.specs.Digits.{laid}
use Rattle.bits.specs.Writer.{held, target, end, Wrote}
use Rattle.bits.proofs.DigitLaws.{length_bits}
use Rattle.notes.specs.Told.{Fits}
use Rattle.bits.proofs.Laying.{laid_nothing, laid_laid}

pub wrote_then : {u v w : BitWriter} {s t : List ℕ} → end u ≤ 8 * length (held u) → Wrote u v s → Wrote v w t → Wrote u w (s ++ t)
wrote_then {u} {v} {w} {s} {t} h one two =
    let inside : end u ≤ length (target u) = omega (arith, length_bits (held u)) in
    record {
      room = two.room;
      moved = simp length-append (omega (arith, one.moved, two.moved));
      written = two.written ∙ (λ i. laid (one.written i) (one.moved i) t) ∙ laid_laid (target u) (end u) s t inside;
      behind = λ k h. two.behind k h ∙ one.behind k (omega (arith, two.moved));
      size = two.size ∙ one.size;
      lent = two.lent ∙ one.lent;
    }

-- what is left of the room for k bits and n more
pub fits_after : {u v : BitWriter} {s : List ℕ} (k n : ℕ) → length s ≡ k → Wrote u v s → Fits u (k + n) → Fits v n
fits_after k n l w h = omega (arith, w.moved, w.size)

pub wrote_none : (w : BitWriter) → end w ≤ 8 * length (held w) → Wrote w w []
wrote_none w h = record {
  room = h;
  moved = omega arith;
  written = sym (laid_nothing (target w) (end w));
  behind = λ k _. refl;
  size = refl;
  lent = refl;
}

joined_append : {X : Type 0} (f : X → List ℕ) (xs ys : List X) → flat_map f (xs ++ ys) ≡ flat_map f xs ++ flat_map f ys
joined_append f [] ys = refl
joined_append f (x ∷ xs) ys = ap (λ l. f x ++ l) (joined_append f xs ys) ∙ sym (append_assoc (f x) (flat_map f xs) (flat_map f ys))

-- the forms of the first items, and of one more
pub joined_next : {X : Type 0} (f : X → List ℕ) (xs : List X) (i : ℕ) (x : X) → i < length xs → x ≡ get_or xs i x → flat_map f (take (i + 1) xs) ≡ flat_map f (take i xs) ++ f x
joined_next f xs i x h e =
    ap (flat_map f) (take_more xs i x h ∙ ap (λ y. take i xs ++ y ∷ []) (sym e)) ∙ joined_append f (take i xs) (x ∷ []) ∙ ap (λ l. flat_map f (take i xs) ++ l) (append-nil (f x))

-- where there is room for all, there is room for one more
pub joined_room : {X : Type 0} (f : X → List ℕ) (xs : List X) (i : ℕ) (x : X) → i < length xs → x ≡ get_or xs i x
    → length (flat_map f (take i xs)) + length (f x) ≤ length (flat_map f xs)
joined_room f xs i x h e =
    let cut : flat_map f xs ≡ flat_map f (take (i + 1) xs) ++ flat_map f (drop (i + 1) xs) = ap (flat_map f) (sym (take-append-drop (i + 1) xs)) ∙ joined_append f (take (i + 1) xs) (drop (i + 1) xs) in
    let all = ap length cut ∙ length-append (flat_map f (take (i + 1) xs)) (flat_map f (drop (i + 1) xs)) in
    let front = ap length (joined_next f xs i x h e) ∙ length-append (flat_map f (take i xs)) (f x) in
    omega arith

pub joined_map : {X Y : Type 0} (form : Y → List ℕ) (f : X → Y) (xs : List X) → flat_map form (map f xs) ≡ flat_map (λ x. form (f x)) xs
joined_map form f [] = refl
joined_map form f (x ∷ xs) = ap (λ l. form (f x) ++ l) (joined_map form f xs)
