-- The bytes of each alphabet. Assumes nothing.
use Rattle.std.specs.Prelude.{ℕ, Bool}
use Rattle.texts.specs.declared.alphabet.Alphabet.{Alphabet}
use Rattle.texts.specs.declared.alphabet.Alphabet.TheVariants.{Plain, Starred, Slashed}
use Rattle.texts.specs.Texts.{plain, starred, slashed}

abbrev pub allowed : Alphabet → ℕ → Bool
allowed Plain = plain
allowed Starred = starred
allowed Slashed = slashed
