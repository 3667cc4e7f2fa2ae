-- The steps of a match. Assumes nothing.
use Rattle.std.proofs.Common.{◌≡◌, ℕ, suc, ◌+◌, ◌*◌, ◌<◌, ◌≤◌, Bool, true, false, not, ◌&&◌, ◌||◌, ◌≢◌, ◌⊎◌, List, [], ◌∷◌, ◌++◌, length, sym, refl, ap, ◌∙◌, subst, inl, inr, append_assoc, add-mul, mul-le-mul, arith, Bor}
use borrow.Author.Tests.{clash}
use Rattle.std.proofs.ByRecursion.{All-push}
use Rattle.std.proofs.lemmas.Bool.{eq-eqb, ne_eqb}
use Rattle.texts.specs.Matching.{next_is, further, matches}
use Rattle.std.specs.declared.ops.ControlFlow.{ControlFlow}
use Rattle.std.specs.declared.ops.ControlFlow.TheVariants.{Continue, Break}
use Rattle.texts.specs.Walks.{longer, Passed, tries, Stepped, Lengthened}
use Rattle.texts.specs.declared.matching.walk.Star.{Star}
use Rattle.texts.specs.declared.matching.walk.Walk.{Walk}
use Rattle.texts.proofs.Matchings.{matches_byte, matches_star, star_takes_over, slash_stops, unless_true}

absorbed : (a b : Bool) → (b ≡ true → a ≡ true) → (a || b) ≡ a
absorbed true b h = refl
absorbed false b h = unless_true b (λ e. clash (h e))

-- next-is of the byte that stands there
next_here : (b : ℕ) (f : List ℕ → Bool) (t : List ℕ) → next_is b f (b ∷ t) ≡ f t
next_here b f t = ap (λ s. s && f t) (eq-eqb b b refl)

pub next_other : (b c : ℕ) (f : List ℕ → Bool) (t : List ℕ) → b ≢ c → next_is b f (c ∷ t) ≡ false
next_other b c f t h = ap (λ s. s && f t) (ne_eqb b c h)

no_item : (t : List ℕ) → length t ≡ 0 → t ≡ []
no_item [] h = refl
no_item (c ∷ u) h = absurd (omega arith)

-- a match with p and t left and the star s goes on, as well, with q and u left and the star r
abbrev pub Onward : List ℕ → List ℕ → Star → List ℕ → List ℕ → Star → Type 0
Onward p t s q u r =
    Passed q u r × ((matches q u || longer r) ≡ (matches p t || longer s)) × (tries q u r + length q < tries p t s + length p)

-- a star with no text left makes no match
pub nothing_longer : (s : Star) → s.text.now ≡ [] → longer s ≡ false
unfolding further
nothing_longer s e = ap (further (matches s.pattern.now)) e

module _ (p t : List ℕ) where
  -- a shorter pattern, a text that is no longer, and a star that is tried no more often
  fewer :
      (s r : Star) (q u : List ℕ) → length p ≡ suc (length q) → length u ≤ length t → length r.text.now * (1 + length r.pattern.now) ≤ tries p t s
      → tries q u r + length q < tries p t s + length p
  fewer s r q u e le least =
      let less : length u * (1 + length q) ≤ length t * (1 + length p) = mul-le-mul le (omega arith) in
      omega arith

  taken_over : (s : Star) → Passed p t s → (q : List ℕ) → p ≡ 42 ∷ q → longer s ≡ true → matches p t ≡ true
  taken_over s (inl none) q e l = absurd (clash (sym (nothing_longer s none) ∙ l))
  taken_over s (inr (bs, lit, ep, et)) q e l =
      let front = ep ∙ ap (λ x. bs ++ x) e in
      let same : further (matches s.pattern.now) s.text.now ≡ further (matches (bs ++ (42 ∷ q))) (bs ++ t) = (λ k. further (matches (front k)) (et k)) in
      ap (λ x. matches x t) e ∙ star_takes_over bs q t lit (sym same ∙ l)

  pub at_star : (s : Star) → Passed p t s → (r : Star) → p ≡ 42 ∷ r.pattern.now → t ≡ r.text.now → Onward p t s r.pattern.now t r
  at_star s h r e same =
      let least : length r.text.now * (1 + length r.pattern.now) ≤ length t * (1 + length p) =
      mul-le-mul (omega (arith, ap length same)) (omega (arith, ap length e)) in (
        inr ([], tt, refl, sym same),
        (λ k. matches r.pattern.now t || further (matches r.pattern.now) (sym same k))
            ∙ sym (absorbed _ _ (taken_over s h r.pattern.now e) ∙ ap (λ x. matches x t) e ∙ matches_star r.pattern.now t),
        fewer s r r.pattern.now t (ap length e) (omega arith) (omega arith),
      )

  module _ (b : ℕ) (q u : List ℕ) (ep : p ≡ b ∷ q) (et : t ≡ b ∷ u) (plain : b ≢ 42) where
    passed_byte : matches p t ≡ matches q u
    passed_byte = (λ k. matches (ep k) (et k)) ∙ matches_byte b q (b ∷ u) plain ∙ next_here b (matches q) u

    one_more : (l v bs : List ℕ) → l ≡ b ∷ v → bs ++ l ≡ (bs ++ (b ∷ [])) ++ v
    one_more l v bs e = ap (λ x. bs ++ x) e ∙ sym (append_assoc bs (b ∷ []) v)

    longer_stops : (s : Star) → Passed p t s → b ≡ 47 → longer s ≡ false
    longer_stops s (inl none) e = nothing_longer s none
    longer_stops s (inr (bs, lit, fp, ft)) e =
        (λ k. further (matches ((fp ∙ ap (λ x. bs ++ x) (ep ∙ ap (λ c. c ∷ q) e)) k)) ((ft ∙ ap (λ x. bs ++ x) (et ∙ ap (λ c. c ∷ u) e)) k))
        ∙ slash_stops bs q u lit

    shorter : length u ≤ length t
    shorter = omega (arith, ap length et)

    -- behind a slash a star with no text left takes the place of the last one
    pub at_slash : (s r : Star) → Passed p t s → b ≡ 47 → r.text.now ≡ [] → Onward p t s q u r
    at_slash s r h e none =
        let least : length r.text.now * (1 + length r.pattern.now) ≡ 0 * (1 + length r.pattern.now) = ap (λ n. n * (1 + length r.pattern.now)) (ap length none) in
        (inl none, (λ k. sym passed_byte k || (nothing_longer r none ∙ sym (longer_stops s h e)) k), fewer s r q u (ap length ep) shorter (omega arith))

    pub at_other : (s : Star) → Passed p t s → b ≢ 47 → Onward p t s q u s
    at_other s h n = (also h, ap (λ x. x || longer s) (sym passed_byte), fewer s s q u (ap length ep) shorter (omega arith))
      where
        also : Passed p t s → Passed q u s
        also (inl none) = inl none
        also (inr (bs, lit, fp, ft)) = inr (bs ++ (b ∷ []), All-push _ bs b lit (plain, n), fp ∙ one_more _ _ bs ep, ft ∙ one_more _ _ bs et)

  module _ (b : ℕ) (q : List ℕ) (ep : p ≡ b ∷ q) (plain : b ≢ 42) where
    pub fails_behind : length t ≡ 0 → matches p t ≡ false
    fails_behind h = (λ k. matches (ep k) (no_item t h k)) ∙ matches_byte b q [] plain

    pub fails_at : (c : ℕ) (u : List ℕ) → t ≡ c ∷ u → b ≢ c → matches p t ≡ false
    fails_at c u et other = (λ k. matches (ep k) (et k)) ∙ matches_byte b q (c ∷ u) plain ∙ next_other b c (matches q) u other

  pub ends_together : (s : Star) → p ≡ [] → length t ≡ 0 → true ≡ (matches p t || longer s)
  unfolding matches
  ends_together s ep h = λ k. matches (sym ep k) (sym (no_item t h) k) || longer s

  pub text_left : p ≡ [] → 0 < length t → matches p t ≡ false
  unfolding matches
  text_left ep h = ap (λ x. matches x t) ep ∙ left t h
    where
      left : (t : List ℕ) → 0 < length t → matches [] t ≡ false
      left [] h = absurd (omega arith)
      left (c ∷ u) h = refl

  module _ (fails : matches p t ≡ false) where
    -- what the star could stand for at the end of the text or at a slash
    no_longer : (s : Star) → (s.text.now ≡ []) ⊎ ((c : ℕ) × (u : List ℕ) × (s.text.now ≡ c ∷ u) × (c ≡ 47)) → longer s ≡ false
    unfolding further
    no_longer s (inl e) = ap (further (matches s.pattern.now)) e
    no_longer s (inr (c, u, e, h)) = ap (further (matches s.pattern.now)) (e ∙ ap (λ b. b ∷ u) h)

    given_up :
        (s : Star) → (s.text.now ≡ []) ⊎ ((c : ℕ) × (u : List ℕ) × (s.text.now ≡ c ∷ u) × (c ≡ 47))
        → false ≡ (matches p t || longer s)
    given_up s why = λ k. sym fails k || sym (no_longer s why) k

    again :
        (s r : Star) (c : ℕ) → s.text.now ≡ c ∷ r.text.now → c ≢ 47 → r.pattern.now ≡ s.pattern.now
        → Onward p t s r.pattern.now r.text.now r
    unfolding further
    again s r c e h same =
        let f = matches s.pattern.now in
        let u = r.text.now in
        let more : (f u || further f u) ≡ further f s.text.now = ap (λ b. not b && (f u || further f u)) (sym (ne_eqb c 47 h)) ∙ sym (ap (further f) e) in
        let size : length s.text.now * (1 + length s.pattern.now) ≡ (1 + length u) * (1 + length s.pattern.now) =
        ap (λ n. n * (1 + length s.pattern.now)) (omega (arith, ap length e)) in
        let split = add-mul 1 (length u) (1 + length s.pattern.now) in
        let times : length u * (1 + length r.pattern.now) ≡ length u * (1 + length s.pattern.now) = ap (λ q. length u * (1 + length q)) same in (
          inr ([], tt, refl, refl),
          ap (λ q. matches q u || further (matches q) u) same ∙ more ∙ ap (λ x. x || further f s.text.now) (sym fails),
          omega (arith, ap length same),
        )

module _ (p t : Bor (List ℕ)) (fails : matches p.now t.now ≡ false) where
  pub retried : (s : Star) (r : ControlFlow Bool Walk) → Lengthened s r → Stepped (record { pattern = p; text = t; star = s }) r
  retried s (Break b) (off, why) = off ∙ given_up p.now t.now fails s why
  retried s (Continue v) (c, e, h, same, star) =
      subst (λ r. Onward p.now t.now s v.pattern.now v.text.now r) (sym star)
      (again p.now t.now fails s (record { pattern = v.pattern; text = v.text }) c e h same)
