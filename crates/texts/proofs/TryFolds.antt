-- A fold that may stop: what each call keeps holds of the total at the end. Assumes nothing.
use Rattle.std.proofs.Common.{◌≡◌, List, [], ◌∷◌, Some, None, Option, Continue, Break, ControlFlow, MatchOption, subst, refl}
use denote.Param.Members.{Mut, Called}
use Rattle.std.specs.ControlFlow.{continue_value}
use Rattle.std.specs.Iterator.{AlwaysYields, Yields, TryFoldTurn, TryFoldsItems}
use Rattle.std.specs.List.{FoldsTo}
use Rattle.std.proofs.lemmas.Iterator.{YieldsList}

abbrev branches : {B E : Type 0} → Option B → ControlFlow E B → Type 0
branches o c = o ≡ continue_value c

-- a call takes what holds before an item to what holds after it, or stops
abbrev pub Keeps : {A F B T : Type 0} → Mut F (B × (A × Unit {0})) (Option B) → F → (A → T) → (List T → B → Type 0) → Type 0 → Type 0
Keeps {A} {F} {B} {T} g f v I Stopped = (x : A) (a : B) (w : Option B) (h : F) → Called g f (a, (x, tt)) w h → (h ≡ f) × MatchOption w ((xs : List T) → I (v x ∷ xs) a → Stopped) (λ b. (xs : List T) → I (v x ∷ xs) a → I xs b)

abbrev Last : {A F B : Type 0} → Type 0 → Mut F (B × (A × Unit {0})) (Option B) → Option B → F × B → Option A → Type 0
Last {A} {F} {B} E g r q o = MatchOption o (branches {E = E} r (Continue q.1)) (λ x. (w : Option B) × (h : F) × (e : E) × Called g q.0 (q.1, (x, tt)) w h × branches w (Break e) × (r ≡ None))

module _ {S A F B T : Type 0} (E : Type 0) (steps : S → Option A → S → Type 0) {v : A → T} (g : Mut F (B × (A × Unit {0})) (Option B)) (f : F) (I : List T → B → Type 0) (Stopped : Type 0) (keeps : Keeps g f v I Stopped) where
  at_end : (r : Option B) (q : F × B) (o : Option A) (all : List T) (t u : S) → steps t o u → AlwaysYields steps v t all → Last E g r q o → q.0 ≡ f → I all q.1 → MatchOption r Stopped (λ b. I [] b)
  at_end r q None [] t u s y l e i = rw l i
  at_end r q None (z ∷ all) t u s y l e i = absurd (y.0 u s)
  at_end r q (Some x) [] t u s y l e i = absurd (y x u s)
  at_end r q (Some x) (z ∷ all) t u s y l e i =
      let call = rw e at l.3 in
      let k = (keeps x q.1 l.0 l.1 call).1 in
      let stops = rw l.4 at k in
      rw l.5 (stops all (rw (y.1 x u s).0 i))

  along : (r : Option B) (xs : List A) (o : Option A) (all : List T) (s t u : S) (p q : F × B) → Yields steps s xs t → steps t o u → AlwaysYields steps v s all → FoldsTo (TryFoldTurn g (branches {E = E})) p xs q → Last E g r q o → p.0 ≡ f → I all p.1 → MatchOption r Stopped (λ b. I [] b)
  along r [] o all s t u p q ys step y folds l e i =
      at_end r q o all t u step (subst (λ s. AlwaysYields steps v s all) ys y) l (subst (λ p. p.0 ≡ f) folds e) (subst (λ p. I all p.1) folds i)
  along r (x ∷ xs) o [] s t u p q ys step y folds l e i = absurd (y x ys.0 ys.1)
  along r (x ∷ xs) o (z ∷ all) s t u p q ys step y folds l e i =
      let call = rw e at folds.1.1 in
      let k = keeps x p.1 folds.1.0 folds.0.0 call in
      let on = rw folds.1.2 at k.1 in
      let more = y.1 x ys.0 ys.1 in
      along r xs o all ys.0 t u folds.0 q ys.2 step more.1 folds.2 l k.0 (on all (rw more.0 i))

  pub kept_by_try_fold : (s u : S) (init : B) (r : Option B) (all : List T) → TryFoldsItems steps g (branches {E = E}) (λ _ o. o ≡ None) s f init r u → YieldsList steps v s all → I all init → MatchOption r Stopped (λ b. I [] b)
  kept_by_try_fold s u init r all folds yields i =
      along r folds.0 folds.1 all s folds.4.0 u (f, init) (folds.2, folds.3) folds.4.1 folds.4.2 yields.runs folds.5 folds.6 refl i
