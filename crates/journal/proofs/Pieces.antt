-- No piece is longer than the text. Assumes nothing.
use Rattle.std.proofs.Common.{ℕ, ◌-◌, ◌<◌, ◌≤◌, true, false, cond, eqb, List, [], ◌∷◌, length, arith}
use Rattle.texts.specs.Pieces.{in_front, pieces}
use Rattle.journal.specs.Words.{Within}

within_in_front : (b n : ℕ) (ps : List (List ℕ)) → 0 < n → Within (n - 1) ps → Within n ps → Within n (in_front b ps)
within_in_front b n [] some less within = (omega arith, tt)
within_in_front b n (p ∷ ps) some less within = (omega (arith, less.0), within.1)

pub pieces_within : (sep : ℕ) (bs : List ℕ) (n : ℕ) → length bs ≤ n → Within n (pieces sep bs)
unfolding pieces
pieces_within sep [] n fits = (fits, tt)
pieces_within sep (b ∷ bs) n fits =
    let less = pieces_within sep bs (n - 1) (omega arith) in
    let within = pieces_within sep bs n (omega arith) in
    elim (eqb b sep) as (λ s. Within n (cond s ([] ∷ pieces sep bs) (in_front b (pieces sep bs)))) [
      | true ↦ (omega arith, within)
      | false ↦ within_in_front b n (pieces sep bs) (omega arith) less within
    ]
