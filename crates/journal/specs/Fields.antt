-- The words of a call, one by one. Assumes nothing.
use Rattle.std.specs.Prelude.{◌≡◌, ℕ, ◌+◌, ◌<◌, cond, ◌⊎◌, List, [], ◌∷◌, length, drop, Ok, Err, Result, ◌==◌, ◌≢◌}
use Rattle.std.specs.Borrow.{Bor}
use Rattle.journal.specs.declared.name.CallName.{CallName}
use Rattle.journal.specs.declared.unreadable.Field.{Field}
use Rattle.journal.specs.declared.unreadable.Kind.{Kind}
use Rattle.journal.specs.declared.unreadable.Kind.TheVariants.{End}
use Rattle.journal.specs.declared.unreadable.Unreadable.{Unreadable}
use Rattle.journal.specs.declared.unreadable.Unreadable.TheVariants.{Missing, Empty, Other}
use Rattle.journal.specs.Names.{spelling}

-- what is expected of the word at a place
abbrev pub field_at : ℕ → Kind → Field
field_at p k = record { place = p; kind = k }

-- the fault of the first of the words, where it is not what the field expects
abbrev pub fault : Field → List (List ℕ) → Unreadable
fault field [] = Missing field
fault field (word ∷ rest) = cond (length word == 0) (Empty field) (Other field)

-- the first of the words before reads as x, and those after are left; or no word stands there that reads as anything
abbrev pub Took : {X : Type 0} → (List ℕ → X → Type 0) → Field → List (List ℕ) → Result X Unreadable → List (List ℕ) → Type 0
Took {X} reads field before (Ok x) after = (word : List ℕ) × (before ≡ word ∷ after) × reads word x
Took {X} reads field before (Err e) after = (e ≡ fault field before) × ((word : List ℕ) (rest : List (List ℕ)) (x : X) → before ≡ word ∷ rest → reads word x → ⊥)

-- the first of the words before was taken and is not empty, and those after are left; or there is none, or an empty one
abbrev pub TookWord : Field → List (List ℕ) → Result (Bor (List ℕ)) Unreadable → List (List ℕ) → Type 0
TookWord field before (Ok text) after = (before ≡ text.now ∷ after) × (0 < length text.now)
TookWord field before (Err e) after = (e ≡ fault field before) × ((word : List ℕ) (rest : List (List ℕ)) → before ≡ word ∷ rest → length word ≡ 0)

-- no word is left
abbrev pub Ended : Field → List (List ℕ) → Result Unit Unreadable → Type 0
Ended field words (Ok x) = words ≡ []
Ended field words (Err e) = (e ≡ fault field words) × (words ≢ [])

-- the fault is that of one of the words from a place on, which are expected to be of these kinds
abbrev pub FaultAt : ℕ → List Kind → List (List ℕ) → Unreadable → Type 0
FaultAt place [] words e = ⊥
FaultAt place (kind ∷ kinds) words e = (e ≡ fault (field_at place kind) words) ⊎ FaultAt (place + 1) kinds (drop 1 words) e

-- the only word after the name reads as x; or the words are no such one
abbrev pub Alone : {X : Type 0} → (List ℕ → X → Type 0) → Kind → List (List ℕ) → Result X Unreadable → Type 0
Alone reads kind words (Ok x) = (word : List ℕ) × (words ≡ word ∷ []) × reads word x
Alone {X} reads kind words (Err e) = ((word : List ℕ) (x : X) → words ≡ word ∷ [] → reads word x → ⊥) × FaultAt 2 (kind ∷ End ∷ []) words e

-- the word is the name's spelling
abbrev pub Named : List ℕ → CallName → Type 0
Named word name = word ≡ spelling name
