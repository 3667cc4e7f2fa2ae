-- A text up to its first separator is its first piece. Assumes nothing.
use Rattle.std.proofs.Common.{◌≡◌, ℕ, ◌+◌, true, false, cond, eqb, ltb, List, [], ◌∷◌, length, take, drop, Some, None, refl, ap, ◌∙◌, arith}
use Rattle.std.specs.List.{position, position_or_len, slice_split, onto_first}
use Rattle.std.proofs.lemmas.Bool.{ltb-true, ltb-false}
use Rattle.std.proofs.lemmas.List.Sums.{fails_before_first}
use Rattle.std.proofs.lemmas.List.Splits.{slice_split_none, slice_split_first}
use Rattle.texts.specs.Pieces.{pieces, in_front}

in_front_is : (b : ℕ) (ps : List (List ℕ)) → in_front b ps ≡ onto_first b ps
in_front_is b [] = refl
in_front_is b (p ∷ ps) = refl

pub pieces_is : (sep : ℕ) (bs : List ℕ) → pieces sep bs ≡ slice_split (λ b. eqb b sep) bs
unfolding pieces
pieces_is sep [] = refl
pieces_is sep (b ∷ bs) = rw (pieces_is sep bs) (ap (λ ps. cond (eqb b sep) ([] ∷ slice_split (λ b. eqb b sep) bs) ps) (in_front_is b (slice_split (λ b. eqb b sep) bs)))

pub pieces_cut : (sep : ℕ) (bs : List ℕ) (i : ℕ) → Some i ≡ position (λ b. eqb b sep) bs → pieces sep bs ≡ take i bs ∷ pieces sep (drop (i + 1) bs)
pieces_cut sep bs i e =
    let n = position_or_len (λ b. eqb b sep) bs in
    elim (ltb n (length bs)) as (λ t. ltb n (length bs) ≡ t → Some i ≡ cond t (Some n) None → pieces sep bs ≡ take i bs ∷ pieces sep (drop (i + 1) bs)) [
      | true ↦ λ t s. let same : i ≡ n = cc in rw (same, pieces_is sep bs, pieces_is sep (drop (n + 1) bs)) (slice_split_first (λ b. eqb b sep) bs 0 (ltb-true _ _ t))
      | false ↦ λ t s. cc
    ] refl e

pub pieces_whole : (sep : ℕ) (bs : List ℕ) → None ≡ position (λ b. eqb b sep) bs → pieces sep bs ≡ bs ∷ []
pieces_whole sep bs e =
    let n = position_or_len (λ b. eqb b sep) bs in
    elim (ltb n (length bs)) as (λ t. ltb n (length bs) ≡ t → None ≡ cond t (Some n) None → pieces sep bs ≡ bs ∷ []) [
      | true ↦ λ t s. cc
      | false ↦ λ t s. pieces_is sep bs ∙ slice_split_none (λ b. eqb b sep) bs (λ k d h. fails_before_first (λ b. eqb b sep) bs k d (omega (arith, ltb-false _ _ t)))
    ] refl e
