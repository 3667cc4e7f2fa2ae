-- Notes as words write them. Assumes nothing.
use Rattle.std.specs.Prelude.{◌≡◌, ℕ, ◌+◌, ◌*◌, ◌<◌, ◌⊎◌, List, [], length, codes, slice_index}
use Rattle.std.specs.Borrow.{Bor}
use Rattle.std.specs.Char.{digit_value}

-- two hexadecimal digits, in either case, write the byte
abbrev pub Pair : ℕ → ℕ → ℕ → Type 0
Pair high low byte = (digit_value high < 16) × (digit_value low < 16) × (byte ≡ digit_value high * 16 + digit_value low)

-- the word is a pair of digits for each of the bytes, of which there is one or more
pub record Hex (word bytes : List ℕ) : Type 0 where
  pub some : 0 < length bytes
  pub size : length word ≡ 2 * length bytes
  pub pairs : (k : ℕ) → k < length bytes → Pair (slice_index word (2 * k)) (slice_index word (2 * k + 1)) (slice_index bytes k)

-- the word is a hyphen for the empty note, or else the note in hexadecimal
abbrev pub Noted : List ℕ → Bor (List ℕ) → Type 0
Noted word note = ((word ≡ codes "-") × (note.now ≡ [])) ⊎ Hex word note.now
