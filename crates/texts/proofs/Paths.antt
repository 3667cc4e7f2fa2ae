-- A path, read byte by byte. Assumes nothing.
use Rattle.std.proofs.Common.{◌≡◌, ℕ, suc, ◌+◌, Bool, true, false, cond, not, ◌&&◌, ◌||◌, eqb, leb, List, [], ◌∷◌, length, ltb, ◌≤◌, Some, None, Option, MatchOption, sym, refl, ap, ◌∙◌, subst, zero-add, arith}
use mathlib.Core.Bool.{and-true, and-false, and_assoc}
use Rattle.std.proofs.lemmas.Bool.{ltb-false, lt-leb}
use Rattle.std.specs.List.{list_all}
use Rattle.texts.specs.Lists.{none}
use Rattle.texts.specs.Pieces.{pieces, in_front}
use Rattle.texts.specs.PathFronts.{extended}
use Rattle.texts.specs.declared.segments.PathFront.{PathFront}
use Rattle.texts.specs.Texts.{segment, path}
use Rattle.texts.proofs.PieceLaws.{pieces_there, length_in_front}

module _ (ok : ℕ → Bool) where
  -- segments, of the first of which some bytes are read already where `inside` says so
  abbrev opened : Bool → List (List ℕ) → Bool
  opened inside [] = true
  opened inside (p ∷ ps) = (inside || not (none p)) && list_all ok p && list_all (segment ok) ps

  opened_new : (ps : List (List ℕ)) → opened false ps ≡ list_all (segment ok) ps
  unfolding segment
  opened_new [] = refl
  opened_new (p ∷ ps) = refl

  opened_slash : (inside : Bool) (ps : List (List ℕ)) → opened inside ([] ∷ ps) ≡ (inside && opened false ps)
  opened_slash true ps = sym (opened_new ps)
  opened_slash false ps = refl

  opened_byte : (inside : Bool) (b : ℕ) (ps : List (List ℕ)) → opened inside (in_front b ps) ≡ (ok b && opened true ps)
  opened_byte true b [] = and-true (ok b && true)
  opened_byte true b (p ∷ ps) = and_assoc (ok b) (list_all ok p) (list_all (segment ok) ps)
  opened_byte false b [] = and-true (ok b && true)
  opened_byte false b (p ∷ ps) = and_assoc (ok b) (list_all ok p) (list_all (segment ok) ps)

abbrev within : ℕ → ℕ → ℕ → Bool
within low high n = leb low n && leb n high

-- what is left of a path: n slashes are read, and some bytes of a segment behind the last of them where `inside` says so
pub onward : (ℕ → Bool) → ℕ → ℕ → ℕ → Bool → List ℕ → Bool
onward ok low high n inside t = within low high (n + length (pieces 47 t)) && opened ok inside (pieces 47 t)

pub onward_start : (ok : ℕ → Bool) (low high : ℕ) (t : List ℕ) → onward ok low high 0 false t ≡ path ok low high t
unfolding onward path
onward_start ok low high t = (λ i. within low high (zero-add (length (pieces 47 t)) i) && opened_new ok (pieces 47 t) i)

pub onward_end : (ok : ℕ → Bool) (low high n : ℕ) (inside : Bool) → onward ok low high n inside [] ≡ (inside && within low high (n + 1))
unfolding onward pieces
onward_end ok low high n true = and-true _
onward_end ok low high n false = and-false _

swapped : (x y z : Bool) → (x && (y && z)) ≡ (y && (x && z))
swapped x true z = refl
swapped x false z = and-false x

onward_byte :
    (ok : ℕ → Bool) (low high n : ℕ) (inside : Bool) (b : ℕ) (t : List ℕ)
    → onward ok low high n inside (b ∷ t) ≡ (cond (eqb b 47) inside (ok b) && onward ok low high (cond (eqb b 47) (n + 1) n) (not (eqb b 47)) t)
unfolding onward pieces
onward_byte ok low high n inside b t =
    let ps = pieces 47 t in
    let h = pieces_there 47 t in
    elim (eqb b 47) as (λ s. (within low high (n + length (cond s ([] ∷ ps) (in_front b ps))) && opened ok inside (cond s ([] ∷ ps) (in_front b ps)))
    ≡ (cond s inside (ok b) && (within low high (cond s (n + 1) n + length ps) && opened ok (not s) ps))) [
      | true ↦
          let long : n + suc (length ps) ≡ n + 1 + length ps = omega arith in
          (λ i. within low high (long i) && opened_slash ok inside ps i) ∙ swapped _ inside _
      | false ↦ (λ i. within low high (n + length_in_front b ps h.0 h.1 h.2 i) && opened_byte ok inside b ps i) ∙ swapped _ (ok b) _
    ]

-- a slash too many
too_many : (ok : ℕ → Bool) (low high n : ℕ) (inside : Bool) (t : List ℕ) → ltb n high ≡ false → onward ok low high (n + 1) inside t ≡ false
unfolding onward
too_many ok low high n inside t e =
    let h : high ≤ n = ltb-false n high e in
    let over : leb (n + 1 + length (pieces 47 t)) high ≡ false = lt-leb _ _ (omega arith) in
    rw over (ap (λ s. s && opened ok inside (pieces 47 t)) (and-false _))

-- what is left decides whether the whole is a path
abbrev pub Sofar : (ℕ → Bool) → ℕ → ℕ → Bool → List ℕ → PathFront → Type 0
Sofar ok low high whole t r = onward ok low high r.slashes r.inside t ≡ whole

-- at the end of the text
pub ended :
    (ok : ℕ → Bool) (low high : ℕ) (whole : Bool) (o : Option PathFront) → MatchOption o (whole ≡ false) (λ r. Sofar ok low high whole [] r)
    → MatchOption o (whole ≡ false) (λ r. whole ≡ (r.inside && within low high (r.slashes + 1)))
ended ok low high whole None h = h
ended ok low high whole (Some r) h = sym h ∙ onward_end ok low high r.slashes r.inside

abbrev Turn : (ℕ → Bool) → ℕ → ℕ → Bool → ℕ → PathFront → Option PathFront → Type 0
Turn ok low high whole b r next =
    MatchOption next ((t : List ℕ) → Sofar ok low high whole (b ∷ t) r → whole ≡ false) (λ s. (t : List ℕ) → Sofar ok low high whole (b ∷ t) r → Sofar ok low high whole t s)

-- a byte that may stand goes on with the next front, and any other ends it
pub turn : (ok : ℕ → Bool) (low high : ℕ) (whole : Bool) (b : ℕ) (r : PathFront) (next : Option PathFront) → next ≡ extended ok high b r → Turn ok low high whole b r next
turn ok low high whole b r next e = subst (Turn ok low high whole b r) (sym e) (at (eqb b 47) (ok b) r.inside (ltb r.slashes high) refl refl refl refl)
  where
    more : (t : List ℕ) → Sofar ok low high whole (b ∷ t) r → (cond (eqb b 47) r.inside (ok b) && onward ok low high (cond (eqb b 47) (r.slashes + 1) r.slashes) (not (eqb b 47)) t) ≡ whole
    more t h = sym (onward_byte ok low high r.slashes r.inside b t) ∙ h

    at :
        (s o i l : Bool) → eqb b 47 ≡ s → ok b ≡ o → r.inside ≡ i → ltb r.slashes high ≡ l
        → Turn ok low high whole b r (cond s (cond i (cond l (Some (record { slashes = r.slashes + 1; inside = false })) None) None) (cond o (Some (record { slashes = r.slashes; inside = true })) None))
    at true o true true es eo ei el = λ t h. (λ k. sym ei k && onward ok low high (r.slashes + 1) false t) ∙ rw es at (more t h)
    at true o true false es eo ei el = λ t h. sym (rw es at (more t h)) ∙ (λ k. r.inside && too_many ok low high r.slashes false t el k) ∙ and-false r.inside
    at true o false l es eo ei el = λ t h. sym (rw es at (more t h)) ∙ ap (λ x. x && onward ok low high (r.slashes + 1) false t) ei
    at false true i l es eo ei el = λ t h. (λ k. sym eo k && onward ok low high r.slashes true t) ∙ rw es at (more t h)
    at false false i l es eo ei el = λ t h. sym (rw es at (more t h)) ∙ ap (λ x. x && onward ok low high r.slashes true t) eo

-- a path does not begin with a slash
pub no_path : (ok : ℕ → Bool) (low high : ℕ) (t : List ℕ) → path ok low high (47 ∷ t) ≡ false
unfolding path pieces segment
no_path ok low high t = and-false _
