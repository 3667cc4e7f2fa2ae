-- What a line of a journal is. Assumes nothing.
use Rattle.std.specs.Prelude.{ℕ, ◌-◌, cond, List, [], ◌∷◌, length, take, ◌==◌, slice_index}
use Rattle.journal.specs.declared.line.LineKind.{LineKind}
use Rattle.journal.specs.declared.line.LineKind.TheVariants.{Empty, Comment, Call}

-- a line that begins with '#' is a comment, and any other that is not empty is a call
abbrev pub kind : List ℕ → LineKind
kind [] = Empty
kind (b ∷ bs) = cond (b == 35) Comment Call

-- the line without the LF at its end
abbrev pub bare : List ℕ → List ℕ
bare bs = cond (slice_index bs (length bs - 1) == 10) (take (length bs - 1) bs) bs
