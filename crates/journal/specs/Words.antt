-- The words of a line. Assumes nothing.
use Rattle.std.specs.Prelude.{◌≡◌, ℕ, ◌≤◌, List, [], ◌∷◌, length, Some, None, Option}
use Rattle.std.specs.Borrow.{Bor}
use Rattle.std.specs.List.{AllByRecursion}
use Rattle.texts.specs.Pieces.{pieces}
use Rattle.journal.specs.declared.words.Words.{Words}

-- the words that are still to come
abbrev pub left : Words → List (List ℕ)
left w = elim w.rest [ None ↦ [] | Some text ↦ pieces 32 text.now ]

-- no word has more than n bytes
abbrev pub Within : ℕ → List (List ℕ) → Type 0
Within n words = AllByRecursion (λ word. length word ≤ n) words

-- the first of the words before was handed out, and those after are still to come
abbrev pub Handed : List (List ℕ) → Option (Bor (List ℕ)) → List (List ℕ) → Type 0
Handed before None after = (before ≡ []) × (after ≡ [])
Handed before (Some word) after = before ≡ word.now ∷ after
