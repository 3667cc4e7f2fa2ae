-- The test of identities is the grammar. Assumes nothing.
use Rattle.std.proofs.Common.{◌≡◌, ℕ, ◌<◌, ◌≤◌, Bool, true, not, ◌&&◌, eqb, leb, ◌≢◌, ◌⊎◌, List, [], ◌∷◌, ◌++◌, length, codes, Decides, sym, refl, ap, ◌∙◌, inl, inr, append_assoc, arith}
use Rattle.std.specs.List.{join_with_byte, AllByRecursion, list_all}
use Rattle.std.proofs.ByRecursion.{All-weaker, Decides-by_and}
use Rattle.std.proofs.lemmas.Bool.{and_parts, and_from, leb-true, le-leb, eqb-true, false≢true}
use Rattle.std.proofs.lemmas.Bool.Decides.{nat_tests, Decides-and}
use Rattle.texts.specs.Lists.{none}
use Rattle.texts.specs.Pieces.{pieces}
use Rattle.texts.specs.Texts.{plain, segment, path, slash_then, identity}
use Rattle.texts.specs.Grammar.{Plain, Segment, TwoSegments, ThreeSegments, IdentityGrammar}
use Rattle.texts.proofs.PieceLaws.{rejoined_pieces, pieces_rejoined}

plain_decides : (b : ℕ) → Decides (plain b) (Plain b)
plain_decides b = (λ e. grind (arith, nat_tests), λ h. grind (arith, nat_tests))

some_decides : (s : List ℕ) → Decides (not (none s)) (0 < length s)
some_decides [] = ((λ e. absurd (false≢true e)), λ h. absurd (omega arith))
some_decides (b ∷ s) = ((λ e. omega arith), λ h. refl)

segment_decides : (s : List ℕ) → Decides (segment plain s) (Segment s)
unfolding segment
segment_decides s = Decides-and _ _ (some_decides s) (Decides-by_and plain Plain (list_all plain) plain_decides refl (λ _ _. refl) s)

segments_decide : (ps : List (List ℕ)) → Decides (list_all (segment plain) ps) (AllByRecursion Segment ps)
segments_decide = Decides-by_and (segment plain) Segment (list_all (segment plain)) segment_decides refl (λ _ _. refl)

after_slash : (test : List ℕ → Bool) (t : List ℕ) → slash_then test t ≡ true → (u : List ℕ) × (t ≡ 47 ∷ u) × (test u ≡ true)
after_slash test [] e = absurd (false≢true e)
after_slash test (b ∷ t) e =
    let h = and_parts (eqb b 47) (test t) e in
    (t, ap (λ x. x ∷ t) (eqb-true b 47 h.0), h.1)

two_rejoined : (a b : List ℕ) → codes "//" ++ a ++ codes "/" ++ b ≡ 47 ∷ 47 ∷ join_with_byte 47 (a ∷ b ∷ [])
two_rejoined a b = simp append_assoc

three_rejoined : (a b c : List ℕ) → codes "//" ++ a ++ codes "/" ++ b ++ codes "/" ++ c ≡ 47 ∷ 47 ∷ join_with_byte 47 (a ∷ b ∷ c ∷ [])
three_rejoined a b c = simp append_assoc

two_or_three :
    (ps : List (List ℕ)) → 2 ≤ length ps → length ps ≤ 3 → AllByRecursion Segment ps
    → TwoSegments (47 ∷ 47 ∷ join_with_byte 47 ps) ⊎ ThreeSegments (47 ∷ 47 ∷ join_with_byte 47 ps)
two_or_three [] low high h = absurd (omega arith)
two_or_three (a ∷ []) low high h = absurd (omega arith)
two_or_three (a ∷ b ∷ []) low high h = inl (a, b, h.0, h.1.0, sym (two_rejoined a b))
two_or_three (a ∷ b ∷ c ∷ []) low high h = inr (a, b, c, h.0, h.1.0, h.1.1.0, sym (three_rejoined a b c))
two_or_three (a ∷ b ∷ c ∷ d ∷ ps) low high h = absurd (omega arith)

sound : (t : List ℕ) → identity t ≡ true → (TwoSegments t ⊎ ThreeSegments t) × (length t ≤ 40)
unfolding path
sound t e =
    let h = and_parts (leb (length t) 40) (slash_then (slash_then (path plain 2 3)) t) e in
    let u = after_slash (slash_then (path plain 2 3)) t h.1 in
    let v = after_slash (path plain 2 3) u.0 u.2 in
    let ps = pieces 47 v.0 in
    let parts = and_parts (leb 2 (length ps) && leb (length ps) 3) (list_all (segment plain) ps) v.2 in
    let count = and_parts (leb 2 (length ps)) (leb (length ps) 3) parts.0 in
    let same : t ≡ 47 ∷ 47 ∷ join_with_byte 47 ps = u.1 ∙ ap (λ l. 47 ∷ l) v.1 ∙ ap (λ l. 47 ∷ 47 ∷ l) (sym (rejoined_pieces 47 v.0)) in
    (rw same (two_or_three ps (leb-true _ _ count.0) (leb-true _ _ count.1) ((segments_decide ps).0 parts.1)), leb-true _ _ h.0)

no_slash : (s : List ℕ) → Segment s → AllByRecursion (λ b. b ≢ 47) s
no_slash s h = All-weaker Plain _ (λ b p. p.2) s h.1

rejoined_path :
    (t p : List ℕ) (ps : List (List ℕ)) → t ≡ 47 ∷ 47 ∷ join_with_byte 47 (p ∷ ps) → 1 ≤ length ps → length ps ≤ 2 → AllByRecursion Segment (p ∷ ps)
    → slash_then (slash_then (path plain 2 3)) t ≡ true
unfolding path
rejoined_path t p ps e low high h =
    let cut = pieces_rejoined 47 p ps (no_slash p h.0) (All-weaker Segment _ no_slash ps h.1) in
    let count = and_from _ _ (le-leb 2 (length (p ∷ ps)) (omega arith)) (le-leb (length (p ∷ ps)) 3 (omega arith)) in
    ap (slash_then (slash_then (path plain 2 3))) e ∙ ap (λ l. leb 2 (length l) && leb (length l) 3 && list_all (segment plain) l) cut
    ∙ and_from _ _ count ((segments_decide (p ∷ ps)).1 h)

complete : (t : List ℕ) → (TwoSegments t ⊎ ThreeSegments t) × (length t ≤ 40) → identity t ≡ true
complete t (inl h, few) =
    and_from _ _ (le-leb _ 40 few) (rejoined_path t h.0 (h.1 ∷ []) (h.4 ∙ two_rejoined _ _) (omega arith) (omega arith) (h.2, (h.3, tt)))
complete t (inr h, few) =
    and_from _ _ (le-leb _ 40 few)
    (rejoined_path t h.0 (h.1 ∷ h.2 ∷ []) (h.6 ∙ three_rejoined _ _ _) (omega arith) (omega arith) (h.3, (h.4, (h.5, tt))))

pub identity_grammar : IdentityGrammar
identity_grammar t = (sound t, complete t)
