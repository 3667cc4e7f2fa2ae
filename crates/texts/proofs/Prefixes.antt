-- Texts that begin alike, and patterns that match patterns. Assumes nothing.
use Rattle.std.proofs.Common.{◌≡◌, ℕ, Bool, true, false, not, ◌&&◌, eqb, ◌≢◌, List, [], ◌∷◌, ◌++◌, sym, refl, ap, ◌∙◌, ⊎_elim, append_assoc}
use borrow.Author.Tests.{clash}
use Rattle.std.specs.List.{AllByRecursion}
use Rattle.std.proofs.lemmas.Bool.{eq-eqb}
use Rattle.texts.specs.Matching.{next_is, further, matches, begins}
use Rattle.texts.proofs.Bools.{both_true, and_true, or_true, or_left, or_right}
use Rattle.texts.proofs.Matchings.{matches_byte, matches_star, further_here, further_further, further_same, not_slash, unless_true}
use Rattle.texts.proofs.Replacements.{at_star_or_byte, next_there}

-- no byte is a star
abbrev pub Starless : List ℕ → Type 0
Starless = AllByRecursion (λ b. b ≢ 42)

next_from : (b : ℕ) (f : List ℕ → Bool) (t : List ℕ) → f t ≡ true → next_is b f (b ∷ t) ≡ true
next_from b f t e = and_true (eqb b b) (f t) (eq-eqb b b refl) e

pub begins_there : (d t : List ℕ) → begins d t ≡ true → (u : List ℕ) × (t ≡ d ++ u)
unfolding begins
begins_there [] t e = (t, refl)
begins_there (b ∷ d) t e =
    let w = next_there b (begins d) t e in
    let z = begins_there d w.0 w.2 in
    (z.0, w.1 ∙ ap (λ x. b ∷ x) z.1)

pub begins_from : (d u : List ℕ) → begins d (d ++ u) ≡ true
unfolding begins
begins_from [] u = refl
begins_from (b ∷ d) u = next_from b (begins d) (d ++ u) (begins_from d u)

-- a text that is no d with something behind it does not begin with d
pub begins_not : (d t : List ℕ) → ((u : List ℕ) → t ≡ d ++ u → ⊥) → begins d t ≡ false
begins_not d t h = unless_true (begins d t) (λ e. let z = begins_there d t e in h z.0 z.1)

pub begins_append : (d e u : List ℕ) → begins (d ++ e) (d ++ u) ≡ begins e u
unfolding begins
begins_append [] e u = refl
begins_append (b ∷ d) e u = ap (λ s. s && begins (d ++ e) (d ++ u)) (eq-eqb b b refl) ∙ begins_append d e u

-- what begins with more begins with less
pub begins_less : (d e t : List ℕ) → begins d t ≡ false → begins (d ++ e) t ≡ false
begins_less d e t h =
    unless_true (begins (d ++ e) t)
    (λ m. let z = begins_there (d ++ e) t m in clash (sym h ∙ ap (begins d) (z.1 ∙ append_assoc d e z.0) ∙ begins_from d (e ++ z.0)))

-- a front without stars stands for itself
pub matches_front : (d p t : List ℕ) → Starless d → matches (d ++ p) (d ++ t) ≡ matches p t
matches_front [] p t h = refl
matches_front (b ∷ d) p t h =
    matches_byte b (d ++ p) (b ∷ (d ++ t)) h.0 ∙ ap (λ s. s && matches (d ++ p) (d ++ t)) (eq-eqb b b refl) ∙ matches_front d p t h.1

pub front_matched : (d p t : List ℕ) → Starless d → matches (d ++ p) t ≡ true → begins d t ≡ true
unfolding begins
front_matched [] p t h e = refl
front_matched (b ∷ d) p t h e =
    let w = next_there b (matches (d ++ p)) t (sym (matches_byte b (d ++ p) t h.0) ∙ e) in
    ap (begins (b ∷ d)) w.1 ∙ next_from b (begins d) w.0 (front_matched d p w.0 h.1 w.2)

pub front_missing : (d p t : List ℕ) → Starless d → begins d t ≡ false → matches (d ++ p) t ≡ false
front_missing d p t h e = unless_true (matches (d ++ p) t) (λ m. clash (sym e ∙ front_matched d p t h m))

-- a pattern that begins with d, and what it matches
pub begins_matched : (d q t : List ℕ) → Starless d → begins d q ≡ true → matches q t ≡ true → begins d t ≡ true
begins_matched d q t h b m = let z = begins_there d q b in front_matched d z.0 t h (sym (ap (λ x. matches x t) z.1) ∙ m)

further_more : (f g : List ℕ → Bool) → ((t : List ℕ) → f t ≡ true → g t ≡ true) → (t : List ℕ) → further f t ≡ true → further g t ≡ true
unfolding further
further_more f g h [] e = e
further_more f g h (c ∷ t) e =
    let w = both_true (not (eqb c 47)) _ e in
    further_here g c t (not_slash c w.0) (⊎_elim (λ l. or_left _ _ (h t l)) (λ r. or_right _ _ (further_more f g h t r)) (or_true (f t) _ w.1))

-- a pattern that matches a pattern matches what that matches
module _ (p : List ℕ) (on : (q t : List ℕ) → matches p q ≡ true → matches q t ≡ true → matches p t ≡ true) where
  star_further :
      (q : List ℕ) → ((u : List ℕ) → matches q u ≡ true → matches (42 ∷ p) u ≡ true)
      → (c : ℕ) → c ≢ 47 → (t : List ℕ) → matches (c ∷ q) t ≡ true → matches (42 ∷ p) t ≡ true
  star_further q ih c ns t =
      at_star_or_byte (λ c. c ≢ 47 → matches (c ∷ q) t ≡ true → matches (42 ∷ p) t ≡ true) c
      (λ _ m.
      ⊎_elim (ih t)
      (λ r.
      let more = further_more (matches q) (matches (42 ∷ p)) ih t r in
      matches_star p t ∙ or_right _ _ (further_further (matches p) t (sym (further_same _ _ (matches_star p) t) ∙ more)))
      (or_true (matches q t) _ (sym (matches_star q t) ∙ m)))
      (λ n k m.
      let w = next_there c (matches q) t (sym (matches_byte c q t n) ∙ m) in
      ap (matches (42 ∷ p)) w.1 ∙ matches_star p (c ∷ w.0)
      ∙ or_right _ _ (further_here (matches p) c w.0 k (sym (matches_star p w.0) ∙ ih w.0 w.2)))
      ns

  star_through : (q t : List ℕ) → matches (42 ∷ p) q ≡ true → matches q t ≡ true → matches (42 ∷ p) t ≡ true
  unfolding further
  star_through [] t e m = matches_star p t ∙ or_left _ _ (on [] t (⊎_elim (λ l. l) (λ r. absurd (clash r)) (or_true (matches p []) _ (sym (matches_star p []) ∙ e))) m)
  star_through (c ∷ q) t e m =
      ⊎_elim (λ l. matches_star p t ∙ or_left _ _ (on (c ∷ q) t l m))
      (λ r.
      let w = both_true (not (eqb c 47)) _ r in
      star_further q (λ u. star_through q u (matches_star p q ∙ w.1)) c (not_slash c w.0) t m)
      (or_true (matches p (c ∷ q)) _ (sym (matches_star p (c ∷ q)) ∙ e))

pub matches_through : (p q t : List ℕ) → matches p q ≡ true → matches q t ≡ true → matches p t ≡ true
unfolding matches
matches_through [] [] t e m = m
matches_through [] (c ∷ q) t e m = absurd (clash e)
matches_through (b ∷ p) q t e m =
    at_star_or_byte (λ b. matches (b ∷ p) q ≡ true → matches (b ∷ p) t ≡ true) b
    (λ k. star_through p (matches_through p) q t k m)
    (λ n k.
    let w = next_there b (matches p) q (sym (matches_byte b p q n) ∙ k) in
    let z = next_there b (matches w.0) t (sym (matches_byte b w.0 t n) ∙ sym (ap (λ x. matches x t) w.1) ∙ m) in
    ap (matches (b ∷ p)) z.1 ∙ matches_byte b p (b ∷ z.0) n ∙ next_from b (matches p) z.0 (matches_through p w.0 z.0 w.2 z.2))
    e
