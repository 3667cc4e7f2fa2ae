-- What a reading function tells, and what room a writing function needs. Assumes nothing.
use Rattle.std.specs.Prelude.{◌≡◌, ℕ, ◌+◌, ◌*◌, ◌≤◌, List, length, Ok, Err, Result}
use Rattle.bits.specs.Codec.{Reads}
use Rattle.bits.specs.Reader.{bytes, source, place}
use Rattle.bits.specs.Writer.{held, end}
use Rattle.bits.specs.declared.reader.BitReader.{BitReader}
use Rattle.bits.specs.declared.writer.BitWriter.{BitWriter}
use Rattle.notes.specs.Faults.{report}
use Rattle.notes.specs.declared.fault.NoteFault.{NoteFault}

-- the answer stands for what f reads from the bits ds at the place p, and q is the place behind it
abbrev pub ToldAs : {X Y : Type 0} → (X → Y) → Reads Y → List ℕ → ℕ → Result X NoteFault → ℕ → Type 0
ToldAs meant f ds p (Ok x) q = f ds p ≡ Ok (meant x, q)
ToldAs meant f ds p (Err e) q = f ds p ≡ Err (report e)

-- the reader goes on from r to s, over the same bytes, and the answer stands for what f reads there
pub record ReadAs {X Y : Type 0} (meant : X → Y) (f : Reads Y) (r : BitReader) (answer : Result X NoteFault) (s : BitReader) : Type 0 where
  pub kept : bytes s ≡ bytes r
  pub cases : ToldAs meant f (source r) (place r) answer (place s)

-- the same where the answer is what f reads
abbrev pub Read : {X : Type 0} → Reads X → BitReader → Result X NoteFault → BitReader → Type 0
Read f = ReadAs (λ x. x) f

-- there is room for n bits more
abbrev pub Fits : BitWriter → ℕ → Type 0
Fits w n = end w + n ≤ 8 * length (held w)
