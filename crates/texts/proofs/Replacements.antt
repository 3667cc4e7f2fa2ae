-- The test of matching is the replacing of stars. Assumes nothing.
use Rattle.std.proofs.Common.{◌≡◌, ℕ, Bool, true, cond, not, ◌&&◌, ◌||◌, eqb, ◌≢◌, List, [], ◌∷◌, ◌++◌, sym, refl, ap, ◌∙◌, subst, ⊎_elim}
use borrow.Author.Tests.{clash}
use Rattle.std.specs.List.{AllByRecursion}
use Rattle.std.proofs.lemmas.Bool.{cases_eq, eq-eqb, ne_eqb, eqb-true}
use Rattle.texts.specs.Matching.{first, others, replaced, Matches, next_is, further, matches, Replacing}
use Rattle.texts.proofs.Bools.{both_true, or_true, or_left, or_right}
use Rattle.texts.proofs.Matchings.{matches_byte, further_here, not_slash}

abbrev NoSlash : List ℕ → Type 0
NoSlash = AllByRecursion (λ b. b ≢ 47)

-- what a star takes, and what is left
further_parts :
    (f : List ℕ → Bool) (t : List ℕ) → further f t ≡ true
    → (w : List ℕ) × (u : List ℕ) × NoSlash w × (t ≡ w ++ u) × (f u ≡ true)
unfolding further
further_parts f [] e = absurd (clash e)
further_parts f (c ∷ t) e =
    let h = both_true (not (eqb c 47)) _ e in
    let ns = not_slash c h.0 in
    ⊎_elim (λ l. (c ∷ [], t, (ns, tt), refl, l))
    (λ r. let z = further_parts f t r in (c ∷ z.0, z.1, (ns, z.2), ap (λ x. c ∷ x) z.3, z.4))
    (or_true (f t) _ h.1)

star_takes : (f : List ℕ → Bool) (w u : List ℕ) → NoSlash w → f u ≡ true → (f (w ++ u) || further f (w ++ u)) ≡ true
star_takes f [] u ns e = or_left _ _ e
star_takes f (c ∷ w) u ns e = or_right _ _ (further_here f c (w ++ u) ns.0 (star_takes f w u ns.1 e))

replaced_byte : (b : ℕ) (p : List ℕ) (rs : List (List ℕ)) → b ≢ 42 → replaced (b ∷ p) rs ≡ b ∷ replaced p rs
unfolding replaced
replaced_byte b p rs h = ap (λ s. cond s (first rs ++ replaced p (others rs)) (b ∷ replaced p rs)) (ne_eqb b 42 h)

-- the two kinds of pattern byte
pub at_star_or_byte : (P : ℕ → Type 0) (b : ℕ) → P 42 → (b ≢ 42 → P b) → P b
at_star_or_byte P b s o = ⊎_elim (λ e. subst P (sym e) s) o (cases_eq b 42)

pub next_there : (b : ℕ) (f : List ℕ → Bool) (t : List ℕ) → next_is b f t ≡ true → (u : List ℕ) × (t ≡ b ∷ u) × (f u ≡ true)
next_there b f [] e = absurd (clash e)
next_there b f (c ∷ t) e = let h = both_true (eqb b c) (f t) e in (t, ap (λ x. x ∷ t) (sym (eqb-true b c h.0)), h.1)

pub forth : (p t : List ℕ) → matches p t ≡ true → Matches p t
unfolding replaced matches
forth [] [] e = ([], tt, refl)
forth [] (c ∷ t) e = absurd (clash e)
forth (b ∷ p) t e =
    at_star_or_byte (λ b. matches (b ∷ p) t ≡ true → Matches (b ∷ p) t) b
    (λ m.
    ⊎_elim (λ l. let z = forth p t l in ([] ∷ z.0, (tt, z.1), z.2))
    (λ r.
    let w = further_parts (matches p) t r in
    let z = forth p w.1 w.4 in
    (w.0 ∷ z.0, (w.2, z.1), ap (λ x. w.0 ++ x) z.2 ∙ sym w.3))
    (or_true (matches p t) _ m))
    (λ n m.
    let w = next_there b (matches p) t (sym (matches_byte b p t n) ∙ m) in
    let z = forth p w.0 w.2 in
    (z.0, z.1, replaced_byte b p z.0 n ∙ ap (λ x. b ∷ x) z.2 ∙ sym w.1))
    e

first_plain : (rs : List (List ℕ)) → AllByRecursion NoSlash rs → NoSlash (first rs)
first_plain [] h = tt
first_plain (r ∷ rs) h = h.0

others_plain : (rs : List (List ℕ)) → AllByRecursion NoSlash rs → AllByRecursion NoSlash (others rs)
others_plain [] h = tt
others_plain (r ∷ rs) h = h.1

pub back : (p : List ℕ) (rs : List (List ℕ)) → AllByRecursion NoSlash rs → matches p (replaced p rs) ≡ true
unfolding replaced matches
back [] rs h = refl
back (b ∷ p) rs h =
    at_star_or_byte (λ b. matches (b ∷ p) (replaced (b ∷ p) rs) ≡ true) b
    (star_takes (matches p) (first rs) (replaced p (others rs)) (first_plain rs h) (back p (others rs) (others_plain rs h)))
    (λ n.
    ap (matches (b ∷ p)) (replaced_byte b p rs n) ∙ matches_byte b p (b ∷ replaced p rs) n
    ∙ ap (λ s. s && matches p (replaced p rs)) (eq-eqb b b refl) ∙ back p rs h)

pub replacing : Replacing
replacing p t = (forth p t, λ m. ap (matches p) (sym m.2) ∙ back p m.0 m.1)
