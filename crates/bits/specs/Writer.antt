-- What a writer stands for, and what it is to write. Assumes nothing.
use Rattle.std.specs.Prelude.{◌≡◌, ℕ, ◌+◌, ◌*◌, ◌≤◌, List, length, drop}
use Rattle.std.specs.Borrow.{GName}
use Rattle.bits.specs.Digits.{bits, laid}
use Rattle.bits.specs.declared.writer.BitWriter.{BitWriter}

-- the bytes of the lent buffer
abbrev pub held : BitWriter → List ℕ
held w = w.out.now

-- their bits
abbrev pub target : BitWriter → List ℕ
target w = bits (held w)

-- how many of these bits are written
abbrev pub end : BitWriter → ℕ
end w = w.pos

-- the reference that it writes through
abbrev pub handle : BitWriter → GName
handle w = w.out.ghost_name

-- the bits s were written behind what was there, and no byte behind them was touched
pub record Wrote (before later : BitWriter) (s : List ℕ) : Type 0 where
  pub room : end later ≤ 8 * length (held later)
  pub moved : end later ≡ end before + length s
  pub written : target later ≡ laid (target before) (end before) s
  pub behind : (k : ℕ) → end later ≤ 8 * k → drop k (held later) ≡ drop k (held before)
  pub size : length (held later) ≡ length (held before)
  pub lent : handle later ≡ handle before
