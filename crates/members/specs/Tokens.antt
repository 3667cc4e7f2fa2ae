-- The token layer. Assumes nothing.
use Rattle.std.specs.Prelude.{◌≡◌, ℕ, Bool, true, false, ◌||◌, List, [], ◌∷◌, ◌++◌, length, is_ok, Ok, Err, Result, ◌==◌}
use Rattle.members.specs.declared.flat_roll.MemberRow.{MemberRow}
use Rattle.members.specs.declared.full.LayerFull.{LayerFull}
use Rattle.members.specs.Pairs.{Pairs, Alike, with_pair}
use Rattle.members.specs.Rows.{row_of, listed}

-- the meaning of the layer: the presented pairs together with those below
abbrev pub with_presented : List MemberRow → Pairs → Pairs
with_presented held below i s = listed held i s || below i s

-- a pair is presented to a layer that holds it or not, and is full or not
abbrev pub PresentedWhere : Bool → Bool → List ℕ → List ℕ → List MemberRow → Result (Unit {0}) LayerFull → List MemberRow → Type 0
PresentedWhere true full i s held r later = (is_ok r ≡ true) × (later ≡ held)
PresentedWhere false true i s held r later = (is_ok r ≡ false) × (later ≡ held)
PresentedWhere false false i s held r later = (is_ok r ≡ true) × (later ≡ held ++ (row_of i s ∷ []))

-- what presenting a pair answers, and what the layer holds later
abbrev pub Presented : List ℕ → List ℕ → List MemberRow → Result (Unit {0}) LayerFull → List MemberRow → Type 0
Presented i s held r later = PresentedWhere (listed held i s) (length held == 8) i s held r later

-- the meaning after presenting: where it is accepted the pair is in, and nothing else changes
abbrev pub Gained : List ℕ → List ℕ → Pairs → Result (Unit {0}) LayerFull → Pairs → Type 0
Gained identity standing before (Ok _) later = Alike later (with_pair identity standing before)
Gained identity standing before (Err _) later = Alike later before
