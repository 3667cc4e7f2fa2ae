-- The second season's book is ahead of the first's. Assumes nothing.
use Rattle.std.proofs.Common.{◌≡◌, ℕ, ◌≤◌, Bool, true, false, cond, not, ◌&&◌, eqb, ◌⊎◌, List, ◌∷◌, Some, None, count_by, Option, sym, refl, ap, ◌∙◌, subst, inl, inr, arith}
use borrow.Author.Tests.{clash}
use Rattle.std.proofs.lemmas.Bool.{and_parts, and_from, ltb-false}
use Rattle.members.specs.Pairs.{Pairs, LacksNone}
use Rattle.notes.specs.Rules.{RuleValue, same_side, rule_lawful}
use Rattle.notes.specs.declared.rule.Side.{Side}
use Rattle.notes.specs.declared.rule.Side.TheVariants.{Privileges, SelfPrivileges}
use Rattle.admission.specs.Admitting.{rule_admits}
use Rattle.admission.specs.Covering.{rule_covers}
use Rattle.admission.specs.Requests.{RequestValue}
use Rattle.admission.proofs.Sound.{rules_sound, members_more}
use Rattle.register.specs.declared.request.Target.{Target}
use Rattle.register.specs.declared.request.Target.TheVariants.{Number, Policy}
use Rattle.register.specs.Answers.{Answer, accepted, refused, stands, too_high, unless_refused, withdraw_refusal}
use Rattle.register.specs.Book.{Book, empty, in_book, unless, struck, marked}
use Rattle.register.specs.Entries.{Entry, is_named}
use Rattle.register.specs.Faults.{Refusal, plainly}
use Rattle.register.specs.Requests.{eligible, passes}
use Rattle.register.proofs.Counts.{cond_mono, count_cons, count_mono, count_split, count_kept}

-- the same name, and the same rule or one that covers it
abbrev pub AtLeast : List ℕ → Entry → Entry → Type 0
AtLeast home e' e =
    (e'.policy ≡ e.policy) × (e'.number ≡ e.number)
    × ((e'.rule ≡ e.rule) ⊎ ((rule_lawful e'.rule ≡ true) × (rule_covers home e'.rule e.rule ≡ true)))

pub record Ahead (home : List ℕ) (b b' : Book) : Type 0 where
  pub rules : (f g : Entry → Bool) → ((e e' : Entry) → AtLeast home e' e → f e ≡ true → g e' ≡ true) → count_by f b.rules ≤ count_by g b'.rules
  pub links : (k p : ℕ) → b.links k p ≡ true → b'.links k p ≡ true

pub ahead_empty : (home : List ℕ) → Ahead home empty empty
ahead_empty home = record { rules = λ f g h. omega arith; links = λ k p h. h }

both : (x v y z : Bool) → (y ≡ true → z ≡ true) → cond x v y ≡ true → cond x v z ≡ true
both true v y z h t = t
both false v y z h t = h t

more : (x z : Bool) → z ≡ true → cond x true z ≡ true
more true z h = refl
more false z h = h

abbrev with_entry : Entry → Book → Book
with_entry e b = record { rules = e ∷ b.rules; links = b.links }

module _ {home : List ℕ} {b b' : Book} (a : Ahead home b b') where
  pub enter_both : (e e' : Entry) → AtLeast home e' e → Ahead home (with_entry e b) (with_entry e' b')
  enter_both e e' c = record {
    rules = λ f g h. omega (arith, count_cons f e b.rules, count_cons g e' b'.rules, cond_mono (f e) (g e') (h e e' c), a.rules f g h);
    links = a.links;
  }

  pub enter_more : (e : Entry) → Ahead home b (with_entry e b')
  enter_more e = record { rules = λ f g h. omega (arith, count_cons g e b'.rules, a.rules f g h); links = a.links }

  pub mark_both : (v : Bool) (k p : ℕ) → Ahead home (marked v k p b) (marked v k p b')
  mark_both v k p = record { rules = a.rules; links = λ k' p'. both (eqb k' k && eqb p' p) v _ _ (a.links k' p') }

  pub mark_more : (k p : ℕ) → Ahead home b (marked true k p b')
  mark_more k p = record { rules = a.rules; links = λ k' p' h. more (eqb k' k && eqb p' p) _ (a.links k' p' h) }

-- a withdrawal, done or refused, leaves what has another name
left : (b : Book) (p n : ℕ) (f : Entry → Bool) (standing : Bool) → stands (in_book b) p n ≡ standing
    → count_by f (unless (cond standing None (Some (plainly 11))) (struck p n b) b).rules ≡ count_by (λ e. f e && not (is_named p n e)) b.rules
left b p n f true e = count_kept f (λ e. not (is_named p n e)) b.rules
left b p n f false e =
    omega (arith, count_split f (is_named p n) b.rules, count_mono (λ e. f e && is_named p n e) (is_named p n) b.rules (λ e h. (and_parts (f e) (is_named p n e) h).1), ltb-false _ _ e)

same_name : (home : List ℕ) (p n : ℕ) (e e' : Entry) → AtLeast home e' e → is_named p n e' ≡ is_named p n e
same_name home p n e e' c = λ i. eqb (c.0 i) p && eqb (c.1 i) n

same_links : (x : Option Refusal) (p n : ℕ) (b : Book) → (unless x (struck p n b) b).links ≡ b.links
same_links (Some y) p n b = refl
same_links None p n b = refl

withdraw_high : (home : List ℕ) (b b' : Book) (p n : ℕ) (high : Bool) → Ahead home b b'
    → Ahead home (unless (cond high (Some (plainly 8)) (cond (stands (in_book b) p n) None (Some (plainly 11)))) (struck p n b) b)
    (unless (cond high (Some (plainly 8)) (cond (stands (in_book b') p n) None (Some (plainly 11)))) (struck p n b') b')
withdraw_high home b b' p n true a = a
withdraw_high home b b' p n false a = record {
  rules = λ f g h. omega (
    arith,
    left b p n f (stands (in_book b) p n) refl,
    left b' p n g (stands (in_book b') p n) refl,
    a.rules (λ e. f e && not (is_named p n e)) (λ e. g e && not (is_named p n e))
        (λ e e' c t. let w = and_parts (f e) (not (is_named p n e)) t in and_from (g e') (not (is_named p n e')) (h e e' c w.0) (ap not (same_name home p n e e' c) ∙ w.1)),
  );
  links = λ k q h.
      subst (λ (l : ℕ → ℕ → Bool). l k q ≡ true) (sym (same_links (cond (stands (in_book b') p n) None (Some (plainly 11))) p n b'))
      (a.links k q (subst (λ (l : ℕ → ℕ → Bool). l k q ≡ true) (same_links (cond (stands (in_book b) p n) None (Some (plainly 11))) p n b) h));
}

pub withdraw_both : (home : List ℕ) (b b' : Book) (p n : ℕ) → Ahead home b b'
    → Ahead home (unless (withdraw_refusal (in_book b) p n) (struck p n b) b) (unless (withdraw_refusal (in_book b') p n) (struck p n b') b')
withdraw_both home b b' p n a = withdraw_high home b b' p n (too_high p n) a

pub unless_both : (home : List ℕ) (x : Option Refusal) (c c' b b' : Book) → Ahead home b b' → Ahead home c c' → Ahead home (unless x c b) (unless x c' b')
unless_both home (Some y) c c' b b' a h = a
unless_both home None c c' b b' a h = h

pub unless_more : (home : List ℕ) (x : Option Refusal) (b c' b' : Book) → Ahead home b b' → Ahead home b c' → Ahead home b (unless x c' b')
unless_more home (Some y) b c' b' a h = a
unless_more home None b c' b' a h = h

refused_not : (x : Refusal) (a : Answer) → a ≡ refused x → a ≡ accepted → ⊥
refused_not x a e h = let z : ◌≡◌ {A = ℕ} 0 1 = cc in absurd (omega arith)

-- an addition that the first accepts is accepted by the second
pub unless_added :
    (home : List ℕ) (x y : Option Refusal) (r s : Answer) (c c' b b' : Book) → r ≡ unless_refused x → s ≡ unless_refused y → (r ≡ accepted → s ≡ accepted)
    → Ahead home b b' → Ahead home b c' → (r ≡ accepted → s ≡ accepted → Ahead home c c') → Ahead home (unless x c b) (unless y c' b')
unless_added home (Some v) (Some w) r s c c' b b' h k ok a more both = a
unless_added home (Some v) None r s c c' b b' h k ok a more both = more
unless_added home None (Some w) r s c c' b b' h k ok a more both = absurd (refused_not w s k (ok h))
unless_added home None None r s c c' b b' h k ok a more both = both h k

same_side_of : (r s x : Side) → same_side r s ≡ true → same_side r x ≡ same_side s x
same_side_of Privileges Privileges x e = refl
same_side_of Privileges SelfPrivileges x e = absurd (clash e)
same_side_of SelfPrivileges Privileges x e = absurd (clash e)
same_side_of SelfPrivileges SelfPrivileges x e = refl

module _ (home : List ℕ) (few more : Pairs) (lacks : LacksNone few more) (l l' : ℕ → ℕ → Bool) (links : (k p : ℕ) → l k p ≡ true → l' k p ≡ true) where
  side_kept : (e e' : Entry) (x : Side) → AtLeast home e' e → same_side e'.rule.side x ≡ same_side e.rule.side x
  unfolding rule_covers
  side_kept e e' x (p, n, inl s) = ap (λ (r : RuleValue). same_side r.side x) s
  side_kept e e' x (p, n, inr (w, c)) = same_side_of e'.rule.side e.rule.side x (and_parts (same_side e'.rule.side e.rule.side) _ c).0

  still_eligible : (q : Target) (e e' : Entry) → AtLeast home e' e → eligible l q e ≡ true → eligible l' q e' ≡ true
  still_eligible (Number k) e e' c t =
      let w = and_parts (same_side e.rule.side Privileges) (l k e.policy) t in
      and_from _ _ (side_kept e e' Privileges c ∙ w.0) (ap (l' k) c.0 ∙ links k e.policy w.1)
  still_eligible (Policy p) e e' c t = (λ i. side_kept e e' SelfPrivileges c i && eqb (c.0 i) p) ∙ t

  still_admits : (q : RequestValue) (e e' : Entry) → AtLeast home e' e → rule_admits home few e.rule q ≡ true → rule_admits home more e'.rule q ≡ true
  still_admits q e e' (p, n, inl s) t = ap (λ r. rule_admits home more r q) s ∙ members_more home few more lacks e.rule q t
  still_admits q e e' (p, n, inr (w, c)) t = rules_sound home e'.rule e.rule w c few more lacks q t

  -- what passes still passes
  pub still_passes : (target : Target) (q : RequestValue) (e e' : Entry) → AtLeast home e' e → passes home l target few q e ≡ true → passes home l' target more q e' ≡ true
  unfolding passes
  still_passes target q e e' c t =
      let w = and_parts (eligible l target e) (rule_admits home few e.rule q) t in
      and_from _ _ (still_eligible target e e' c w.0) (still_admits q e e' c w.1)
