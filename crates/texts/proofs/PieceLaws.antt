-- The pieces of a text, and the text that pieces make. Assumes nothing.
use Rattle.std.proofs.Common.{◌≡◌, ℕ, Bool, true, false, cond, eqb, ◌≢◌, List, [], ◌∷◌, ◌++◌, length, sym, refl, ap, ◌∙◌}
use Rattle.std.specs.List.{join_with_byte, AllByRecursion}
use Rattle.std.proofs.lemmas.Bool.{eq-eqb, ne_eqb, eqb-true}
use Rattle.texts.specs.Pieces.{pieces, in_front}

pub pieces_there : (sep : ℕ) (t : List ℕ) → (p : List ℕ) × (ps : List (List ℕ)) × (pieces sep t ≡ p ∷ ps)
unfolding pieces
pieces_there sep [] = ([], [], refl)
pieces_there sep (b ∷ t) =
    let h = pieces_there sep t in
    elim (eqb b sep) as (λ s. (p : List ℕ) × (ps : List (List ℕ)) × (cond s ([] ∷ pieces sep t) (in_front b (pieces sep t)) ≡ p ∷ ps)) [
      | true ↦ ([], pieces sep t, refl)
      | false ↦ (b ∷ h.0, h.1, ap (in_front b) h.2)
    ]

pub length_in_front : (b : ℕ) (ps : List (List ℕ)) (p : List ℕ) (qs : List (List ℕ)) → ps ≡ p ∷ qs → length (in_front b ps) ≡ length ps
length_in_front b ps p qs e = ap (λ l. length (in_front b l)) e ∙ sym (ap length e)

-- a text without a separator is one piece
pieces_whole : (sep : ℕ) (s : List ℕ) → AllByRecursion (λ b. b ≢ sep) s → pieces sep s ≡ s ∷ []
unfolding pieces
pieces_whole sep [] h = refl
pieces_whole sep (b ∷ s) h = rw (ne_eqb b sep h.0, pieces_whole sep s h.1)

pieces_cut : (sep : ℕ) (s t : List ℕ) → AllByRecursion (λ b. b ≢ sep) s → pieces sep (s ++ (sep ∷ t)) ≡ s ∷ pieces sep t
unfolding pieces
pieces_cut sep [] t h = rw (eq-eqb sep sep refl)
pieces_cut sep (b ∷ s) t h = rw (ne_eqb b sep h.0, pieces_cut sep s t h.1)

-- pieces without a separator are those of the text that they make
pub pieces_rejoined :
    (sep : ℕ) (p : List ℕ) (ps : List (List ℕ)) → AllByRecursion (λ b. b ≢ sep) p → AllByRecursion (AllByRecursion (λ b. b ≢ sep)) ps
    → pieces sep (join_with_byte sep (p ∷ ps)) ≡ p ∷ ps
pieces_rejoined sep p [] h hs = pieces_whole sep p h
pieces_rejoined sep p (q ∷ ps) h hs = pieces_cut sep p (join_with_byte sep (q ∷ ps)) h ∙ ap (λ l. p ∷ l) (pieces_rejoined sep q ps hs.0 hs.1)

rejoined_in_front : (sep b : ℕ) (p : List ℕ) (ps : List (List ℕ)) → join_with_byte sep ((b ∷ p) ∷ ps) ≡ b ∷ join_with_byte sep (p ∷ ps)
rejoined_in_front sep b p [] = refl
rejoined_in_front sep b p (q ∷ ps) = refl

pub rejoined_pieces : (sep : ℕ) (t : List ℕ) → join_with_byte sep (pieces sep t) ≡ t
unfolding pieces
rejoined_pieces sep [] = refl
rejoined_pieces sep (b ∷ t) = at_byte (rejoined_pieces sep t) (eqb b sep) refl
  where
    at_byte :
        join_with_byte sep (pieces sep t) ≡ t → (s : Bool) → eqb b sep ≡ s
        → join_with_byte sep (cond s ([] ∷ pieces sep t) (in_front b (pieces sep t))) ≡ b ∷ t
    at_byte rest true e =
        let h = pieces_there sep t in
        ap (λ l. join_with_byte sep ([] ∷ l)) h.2 ∙ ap (λ l. sep ∷ join_with_byte sep l) (sym h.2) ∙ (λ i. sym (eqb-true b sep e) i ∷ rest i)
    at_byte rest false e =
        let h = pieces_there sep t in
        ap (λ l. join_with_byte sep (in_front b l)) h.2 ∙ rejoined_in_front sep b h.0 h.1
        ∙ ap (λ l. b ∷ join_with_byte sep l) (sym h.2) ∙ ap (λ l. b ∷ l) rest
