-- How readings are put together: the grammar in which the format of a note is written. Assumes nothing.
use Rattle.std.specs.Prelude.{ℕ, zero, suc, Bool, cond, List, [], ◌∷◌, Ok, Err, Result}
use Rattle.bits.specs.Codec.{Reads}
use Rattle.bits.specs.declared.fault.Report.{Report}
use Rattle.notes.specs.Faults.{broken}

abbrev pub checked : {X : Type 0} → (X → Bool) → ℕ → ℕ → Result (X × ℕ) Report → Result (X × ℕ) Report
checked test n p (Ok x) = cond (test x.0) (Ok x) (Err (broken n p))
checked test n p (Err e) = Err e

-- what f reads, or the fault n at its first bit where the test fails
abbrev pub guard : {X : Type 0} → (X → Bool) → ℕ → Reads X → Reads X
guard test n f ds p = checked test n p (f ds p)

abbrev pub mapped : {X Y : Type 0} → (X → Y) → Result (X × ℕ) Report → Result (Y × ℕ) Report
mapped to (Ok x) = Ok (to x.0, x.1)
mapped to (Err e) = Err e

-- what f reads, as another value
abbrev pub made : {X Y : Type 0} → (X → Y) → Reads X → Reads Y
made to f ds p = mapped to (f ds p)

abbrev pub after : {X Y : Type 0} → (X → Reads Y) → List ℕ → Result (X × ℕ) Report → Result ((X × Y) × ℕ) Report
after h ds (Ok x) = mapped (λ y. (x.0, y)) (h x.0 ds x.1)
after h ds (Err e) = Err e

-- one item, and then a second whose reading may turn on the first
abbrev pub seq : {X Y : Type 0} → Reads X → (X → Reads Y) → Reads (X × Y)
seq f h ds p = after h ds (f ds p)

-- n items, one after the other
abbrev pub times : {X : Type 0} → ℕ → Reads X → Reads (List X)
times zero f ds p = Ok ([], p)
times (suc n) f ds p = mapped (λ z. z.0 ∷ z.1) (after (λ _. times n f) ds (f ds p))
