-- What it is to read an item from a row of bits, and when a reading belongs to a bit form. Assumes nothing.
use Rattle.std.specs.Prelude.{◌≡◌, ℕ, zero, suc, ◌+◌, ◌*◌, ◌^◌, ◌<◌, cond, ◌&&◌, List, [], ◌∷◌, ◌++◌, length, take, drop, Ok, Err, Result, nat_le}
use Rattle.std.specs.List.{AllByRecursion}
use Rattle.std.specs.Int.Digits.{number_from_digits, AllBelowBase}
use Rattle.bits.specs.Faults.{ended}
use Rattle.bits.specs.declared.fault.Report.{Report}

-- from a row of bits and a place: the item that stands there and the place behind it, or a fault
abbrev pub Reads : Type 0 → Type 0
Reads X = List ℕ → ℕ → Result (X × ℕ) Report

-- a field of w bits is a number of at most 128 bits; it does not fit where the row ends inside it
abbrev pub field : ℕ → Reads ℕ
field w ds p = cond (nat_le w 128 && nat_le (p + w) (length ds)) (Ok (number_from_digits 2 (take w (drop p ds)), p + w)) (Err (ended p))

-- the n bytes that bits spell
abbrev pub bytes_of : ℕ → List ℕ → List ℕ
bytes_of zero ds = []
bytes_of (suc n) ds = number_from_digits 2 (take 8 ds) ∷ bytes_of n (drop 8 ds)

-- a text of n bytes is one field
unfoldable pub text : ℕ → Reads (List ℕ)
text n ds p = cond (nat_le (p + 8 * n) (length ds)) (Ok (bytes_of n (drop p ds), p + 8 * n)) (Err (ended p))

-- each is a byte
abbrev pub Bytes : List ℕ → Type 0
Bytes = AllByRecursion (λ b. b < 2 ^ 8)

-- the reading f belongs to the bit form: the form of a lawful item is a row of bits that reads back as
-- that item, whatever stands before and behind it; and where f reads an item, it is lawful and its form
-- stands there
pub record Lawful {X : Type 0} (ok : X → Type 0) (form : X → List ℕ) (f : Reads X) : Type 0 where
  pub binary : (x : X) → ok x → AllBelowBase 2 (form x)
  pub back : (x : X) → ok x → (a b : List ℕ) → f (a ++ (form x ++ b)) (length a) ≡ Ok (x, length a + length (form x))
  pub forth : (ds : List ℕ) → AllBelowBase 2 ds → (p : ℕ) (x : X) (q : ℕ) → f ds p ≡ Ok (x, q)
      → ok x × (q ≡ p + length (form x)) × (take (length (form x)) (drop p ds) ≡ form x)
