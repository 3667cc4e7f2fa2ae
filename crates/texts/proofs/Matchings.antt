-- The last star decides: what an earlier star could still take, the last one can take. Assumes nothing.
use Rattle.std.proofs.Common.{◌≡◌, ℕ, Bool, true, false, cond, not, ◌&&◌, ◌||◌, eqb, ◌≢◌, List, [], ◌∷◌, ◌++◌, sym, refl, ap, ◌∙◌, ⊎_elim}
use borrow.Author.Tests.{clash}
use Rattle.std.proofs.lemmas.Bool.{eq-eqb, ne_eqb, eqb-true}
use Rattle.texts.specs.Matching.{next_is, further, matches}
use Rattle.texts.specs.Walks.{Literal}
use Rattle.texts.proofs.Bools.{both_true, and_true, or_true, or_left, or_right}

pub matches_byte : (b : ℕ) (p t : List ℕ) → b ≢ 42 → matches (b ∷ p) t ≡ next_is b (matches p) t
unfolding matches
matches_byte b p t h = ap (λ s. cond s (matches p t || further (matches p) t) (next_is b (matches p) t)) (ne_eqb b 42 h)

pub matches_star : (p t : List ℕ) → matches (42 ∷ p) t ≡ (matches p t || further (matches p) t)
unfolding matches
matches_star p t = refl

pub further_here : (f : List ℕ → Bool) (c : ℕ) (t : List ℕ) → c ≢ 47 → (f t || further f t) ≡ true → further f (c ∷ t) ≡ true
unfolding further
further_here f c t h e = and_true _ _ (ap not (ne_eqb c 47 h)) e

not_true : (b : Bool) → not b ≡ true → b ≡ false
not_true true e = absurd (clash e)
not_true false e = refl

pub not_slash : (c : ℕ) → not (eqb c 47) ≡ true → c ≢ 47
not_slash c e h = clash (sym (not_true (eqb c 47) e) ∙ eq-eqb c 47 h)

-- what holds behind the byte b and some bytes holds behind some bytes
behind_byte : (b : ℕ) (f : List ℕ → Bool) (t : List ℕ) → b ≢ 47 → (next_is b f t || further (next_is b f) t) ≡ true → further f t ≡ true
unfolding further
behind_byte b f [] h e = absurd (clash e)
behind_byte b f (c ∷ t) h e =
    ⊎_elim
    (λ l.
    let w = both_true (eqb b c) (f t) l in
    further_here f c t (λ k. h (eqb-true b c w.0 ∙ k)) (or_left _ _ w.1))
    (λ r.
    let w = both_true (not (eqb c 47)) _ r in
    further_here f c t (not_slash c w.0) (or_right _ _ (behind_byte b f t h w.1)))
    (or_true (eqb b c && f t) _ e)

-- some bytes, and behind them some bytes more
pub further_further : (f : List ℕ → Bool) (t : List ℕ) → further (λ u. f u || further f u) t ≡ true → further f t ≡ true
unfolding further
further_further f [] e = e
further_further f (c ∷ t) e =
    let w = both_true (not (eqb c 47)) _ e in
    further_here f c t (not_slash c w.0)
    (⊎_elim (λ l. l) (λ r. or_right _ _ (further_further f t r)) (or_true (f t || further f t) _ w.1))

pub further_same : (f g : List ℕ → Bool) → ((t : List ℕ) → f t ≡ g t) → (t : List ℕ) → further f t ≡ further g t
unfolding further
further_same f g e [] = refl
further_same f g e (c ∷ t) = λ i. not (eqb c 47) && (e t i || further_same f g e t i)

-- literal bytes passed, and then a star: what the star before it could take, this one can
pub star_takes_over : (bs p t : List ℕ) → Literal bs → further (matches (bs ++ (42 ∷ p))) (bs ++ t) ≡ true → matches (42 ∷ p) t ≡ true
unfolding further
star_takes_over [] p t l e =
    matches_star p t ∙ or_right _ _ (further_further (matches p) t (sym (further_same _ _ (matches_star p) t) ∙ e))
star_takes_over (b ∷ bs) p t l e =
    let same = further_same _ _ (λ u. matches_byte b (bs ++ (42 ∷ p)) u l.0.0) in
    let w = both_true (not (eqb b 47)) _ (sym (same (b ∷ (bs ++ t))) ∙ e) in
    star_takes_over bs p t l.1 (behind_byte b (matches (bs ++ (42 ∷ p))) (bs ++ t) l.0.1 w.1)

pub unless_true : (v : Bool) → (v ≡ true → ⊥) → v ≡ false
unless_true true h = absurd (h refl)
unless_true false h = refl

-- literal bytes passed, and then a slash: the star before it can take no more
pub slash_stops : (bs p t : List ℕ) → Literal bs → further (matches (bs ++ (47 ∷ p))) (bs ++ (47 ∷ t)) ≡ false
unfolding further
slash_stops [] p t l = refl
slash_stops (b ∷ bs) p t l =
    let same = further_same _ _ (λ u. matches_byte b (bs ++ (47 ∷ p)) u l.0.0) in
    unless_true (further (matches (b ∷ (bs ++ (47 ∷ p)))) (b ∷ (bs ++ (47 ∷ t))))
    (λ e.
    let w = both_true (not (eqb b 47)) _ (sym (same (b ∷ (bs ++ (47 ∷ t)))) ∙ e) in
    clash (sym (slash_stops bs p t l.1) ∙ behind_byte b (matches (bs ++ (47 ∷ p))) (bs ++ (47 ∷ t)) l.0.1 w.1))
