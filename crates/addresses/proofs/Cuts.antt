-- A text around its first double colon. Assumes nothing.
use Rattle.std.proofs.Common.{◌≡◌, ℕ, zero, suc, ◌+◌, ◌<◌, ◌≤◌, Bool, true, false, List, [], ◌∷◌, length, take, drop, get_or, Some, None, Option, IfSome, IsSomeAnd, MatchOption, IsTrue, refl, sym, ap, ◌∙◌, arith, Bor}
use denote.Param.Members.{Mut, Called}
use Rattle.std.specs.Option.{option_map}
use Rattle.std.specs.Str.{bytes_eq}
use Rattle.std.specs.Iterator.Runs.{Run, IsWindowsRun, AllItemsGive, IsFirstToGive, CallKeepsClosure}
use Rattle.std.proofs.lemmas.Bool.{cond-true, cond-false}
use Rattle.addresses.specs.Gaps.{opens, around}

-- the test whether two bytes are a double colon
abbrev pub double : List ℕ → Bool
double pair = bytes_eq pair (58 ∷ 58 ∷ [])

-- the first double colon begins at i, or there is none
abbrev pub FirstAt : List ℕ → Option ℕ → Type 0
FirstAt bs None = (k : ℕ) → k + 2 ≤ length bs → double (take 2 (drop k bs)) ≡ false
FirstAt bs (Some i) = (i + 2 ≤ length bs) × (double (take 2 (drop i bs)) ≡ true) × ((k : ℕ) → k < i → double (take 2 (drop k bs)) ≡ false)

module _ {S F : Type 0} {steps : S → Option (Bor (List ℕ)) → S → Type 0} (p : Run steps) (g : Mut F (Bor (List ℕ) × Unit {0}) Bool) (f : F) (bs : List ℕ) where
  -- the test of the window at k
  at_window : ((x : Bor (List ℕ)) (b : Bool) → Called g f (x, tt) b f → b ≡ double x.now) → IsWindowsRun p 2 bs → (k : ℕ) (b : Bool) (o : Option (Bor (List ℕ))) → p.at k ≡ o → IsSomeAnd o (λ x. Called g f (x, tt) b f) → (k + 2 ≤ length bs) × (double (take 2 (drop k bs)) ≡ b)
  at_window tests w k b None e h = absurd h
  at_window tests w k b (Some x) e h =
      let read = rw e at (w.2 k) in
      (read.1, sym (ap double read.2.0) ∙ sym (tests x b h))

  pub first_window : (r : Option ℕ) → CallKeepsClosure g f → ((x : Bor (List ℕ)) (b : Bool) → Called g f (x, tt) b f → b ≡ double x.now) → IsWindowsRun p 2 bs
      → MatchOption r (IsTrue p.whole × AllItemsGive p g f false) (λ i. (p.len ≡ i + 1) × IsFirstToGive p g f true false i) → FirstAt bs r
  first_window None keeps tests w h = λ k fits. (at_window tests w k false _ refl (there (p.at k) _ (w.3 k 0 (omega (arith, w.1 h.0))) (h.1 keeps k))).1
    where
      there : (o : Option (Bor (List ℕ))) (a : ℕ) → option_map (λ x. get_or x.now 0 0) o ≡ Some a → IfSome o (λ x. Called g f (x, tt) false f) → IsSomeAnd o (λ x. Called g f (x, tt) false f)
      there None a e h = cc
      there (Some x) a e h = h
  first_window (Some i) keeps tests w h =
      let here = at_window tests w i true _ refl (h.1 keeps).0 in
      (here.0, here.1, λ k less. (at_window tests w k false _ refl ((h.1 keeps).1 k less)).1)

opens_is : (bs : List ℕ) → opens bs ≡ double (take 2 bs)
opens_is [] = refl
opens_is (a ∷ []) = grind arith
opens_is (a ∷ b ∷ bs) = grind arith

pub around_none : (bs : List ℕ) → FirstAt bs None → around bs ≡ None
unfolding around
around_none [] first = refl
around_none (a ∷ []) first = refl
around_none (a ∷ b ∷ bs) first =
    let rest = around_none (b ∷ bs) (λ k h. first (suc k) (omega arith)) in
    cond-false (opens (a ∷ b ∷ bs)) _ _ (opens_is (a ∷ b ∷ bs) ∙ first 0 (omega arith)) ∙ ap (option_map (λ sides. (a ∷ sides.0, sides.1))) rest

pub around_cut : (bs : List ℕ) (i : ℕ) → FirstAt bs (Some i) → around bs ≡ Some (take i bs, drop (suc (suc i)) bs)
unfolding around
around_cut [] i first = absurd (omega (arith, first.0))
around_cut (a ∷ bs) zero first = cond-true (opens (a ∷ bs)) _ _ (opens_is (a ∷ bs) ∙ first.1)
around_cut (a ∷ bs) (suc i) first =
    let rest = around_cut bs i (omega (arith, first.0), first.1, λ k h. first.2 (suc k) (omega arith)) in
    cond-false (opens (a ∷ bs)) _ _ (opens_is (a ∷ bs) ∙ first.2 0 (omega arith)) ∙ ap (option_map (λ sides. (a ∷ sides.0, sides.1))) rest
