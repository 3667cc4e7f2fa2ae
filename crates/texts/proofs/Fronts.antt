-- What stands behind a front of a text. Assumes nothing.
use Rattle.std.proofs.Common.{◌≡◌, ℕ, true, false, cond, not, ◌&&◌, eqb, leb, ◌≢◌, List, [], ◌∷◌, ◌++◌, length, is_some, Some, None, Option, sym, ap, ◌∙◌, append_assoc, arith, Bor, MatchOption}
use Rattle.std.specs.List.{list_all}
use borrow.Author.Tests.{clash}
use Rattle.std.proofs.lemmas.Bool.{eq-eqb}
use Rattle.texts.specs.Lists.{none}
use Rattle.texts.specs.Matching.{matches, begins}
use Rattle.texts.specs.Texts.{visible, plain, segment, domain, slash_then, full}
use Rattle.texts.proofs.Bools.{both_true}
use Rattle.texts.proofs.Prefixes.{Starless, begins_not, begins_from, begins_append, matches_front, front_missing}

-- a text begins with the front, or there is nothing behind it
abbrev pub Behind : List ℕ → List ℕ → Option (Bor (List ℕ)) → Type 0
Behind d t r = MatchOption r (begins d t ≡ false) (λ rest. t ≡ d ++ rest.now)

pub behind_told : (d t : List ℕ) (r : Option (Bor (List ℕ))) → MatchOption r ((u : List ℕ) → t ≡ d ++ u → ⊥) (λ rest. t ≡ d ++ rest.now) → Behind d t r
behind_told d t None h = begins_not d t h
behind_told d t (Some rest) h = h

-- one front behind another
pub behind_both : (d e t u : List ℕ) (r : Option (Bor (List ℕ))) → t ≡ d ++ u → Behind e u r → Behind (d ++ e) t r
behind_both d e t u None h b = ap (begins (d ++ e)) h ∙ begins_append d e u ∙ b
behind_both d e t u (Some rest) h b = h ∙ ap (λ x. d ++ x) b ∙ sym (append_assoc d e rest.now)

pub behind_there : (d t : List ℕ) (r : Option (Bor (List ℕ))) → Behind d t r → is_some r ≡ begins d t
behind_there d t None h = sym h
behind_there d t (Some rest) h = sym (ap (begins d) h ∙ begins_from d rest.now)

plain_starless : (b : ℕ) → plain b ≡ true → b ≢ 42
plain_starless b e h =
    let outer = both_true (visible b && not (eqb b 47)) (not (eqb b 42)) e in
    clash (ap not (sym (eq-eqb b 42 h)) ∙ outer.1)

each_starless : (d : List ℕ) → list_all plain d ≡ true → Starless d
each_starless [] e = tt
each_starless (b ∷ d) e = let w = both_true (plain b) (list_all plain d) e in (plain_starless b w.0, each_starless d w.1)

pub domain_starless : (d : List ℕ) → domain d ≡ true → Starless d
unfolding segment
domain_starless d e = each_starless d (both_true (not (none d)) (list_all plain d) (both_true (leb (length d) 24) _ e).1).1

abbrev named : List ℕ → List ℕ
named d = 47 ∷ 47 ∷ d

named_starless : (d : List ℕ) → domain d ≡ true → Starless (named d)
named_starless d e = (ne, (ne, domain_starless d e))
  where
    ne : ◌≢◌ {A = ℕ} 47 42
    ne h = absurd (omega (arith, h))

module _ (home p t : List ℕ) (lawful : domain home ≡ true) (relative : slash_then (slash_then (λ _. true)) p ≡ false) where
  written_out : full home p ≡ named home ++ p
  written_out = ap (λ s. cond s p (named home ++ p)) relative

  pub matches_rest : (rest : List ℕ) → t ≡ named home ++ rest → matches p rest ≡ matches (full home p) t
  matches_rest rest e = sym ((λ i. matches (written_out i) (e i)) ∙ matches_front (named home) p rest (named_starless home lawful))

  pub matches_none : begins (named home) t ≡ false → false ≡ matches (full home p) t
  matches_none e = sym (ap (λ q. matches q t) written_out ∙ front_missing (named home) p t (named_starless home lawful) e)
