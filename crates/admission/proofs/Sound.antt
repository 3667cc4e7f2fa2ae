-- What covers another admits at least as much. Assumes nothing.
use Rattle.std.proofs.Common.{◌≡◌, ℕ, Bool, true, false, not, ◌||◌, eqb, ltb, ◌≢◌, List, [], ◌∷◌, ◌++◌, length, Some, Option, sym, refl, ap, ◌∙◌, ⊎_elim, arith}
use borrow.Author.Tests.{clash}
use Rattle.std.proofs.ByRecursion.{All-push}
use Rattle.calendar.specs.Civil.{civil_of}
use Rattle.texts.specs.Covering.{short}
use Rattle.std.specs.List.{list_any, list_all}
use Rattle.texts.specs.Matching.{in_domain}
use Rattle.texts.specs.Texts.{full, domain}
use Rattle.texts.proofs.Bools.{both_true, and_true, or_true, or_left, or_right}
use Rattle.texts.proofs.Fronts.{domain_starless}
use Rattle.texts.proofs.Prefixes.{Starless, begins_matched, matches_through}
use Rattle.members.specs.Pairs.{Pairs, LacksNone}
use Rattle.texts.specs.Same.{same}
use Rattle.texts.proofs.Sames.{same_is}
use Rattle.notes.specs.Constraints.{list_covers}
use Rattle.notes.specs.Contexts.{ContextValue, context_covers}
use Rattle.notes.specs.Operations.{operation_number, has_operation}
use Rattle.notes.specs.Originators.{OriginatorValue, length_lawful, text_lawful, is_byte, originator_lawful}
use Rattle.notes.specs.Rules.{RuleValue, same_side, counts_lawful, rule_lawful}
use Rattle.notes.specs.Sets.{contains}
use Rattle.notes.specs.declared.operation.Operation.{Operation}
use Rattle.notes.specs.declared.operation.Operation.TheVariants.{Create, Retrieve, Update, Delete, Discover, Notify}
use Rattle.notes.specs.declared.originator.EntryKind.{EntryKind}
use Rattle.notes.specs.declared.originator.EntryKind.TheVariants.{All as AllKind, Pattern, Domain, Standing}
use Rattle.notes.specs.ConstraintsLemmas.{list_sound_option}
use Rattle.notes.specs.SetsLemmas.{contains_member}
use Rattle.notes.specs.Sound.{type_sound, context_sound}
use Rattle.admission.specs.Admitting.{kind_matches, originator_matches, types_admit, in_context, contexts_admit, rule_is_for, rule_admits}
use Rattle.admission.specs.Covering.{kind_covers, originator_covers, originators_cover, lists_cover, rule_covers}
use Rattle.admission.specs.Laws.{EntriesSound, RulesSound}
use Rattle.admission.specs.Requests.{RequestValue}

slash_plain : ◌≢◌ {A = ℕ} 47 42
slash_plain h = absurd (omega (arith, h))

-- no byte of '//', a lawful domain and '/' is a star
named_starless : (d : List ℕ) → domain d ≡ true → Starless (47 ∷ 47 ∷ (d ++ (47 ∷ [])))
named_starless d e = (slash_plain, (slash_plain, All-push _ d 47 (domain_starless d e) slash_plain))

same_text : (t u : List ℕ) → same t u ≡ true → u ≡ t
same_text t u e = sym ((same_is t u).0 e)

module _ (home : List ℕ) (few more : Pairs) (lacks : LacksNone few more) (identity : List ℕ) where
  kinds_sound :
      (k l : EntryKind) (t u : List ℕ) → text_lawful k t ≡ true → kind_covers k l home t u ≡ true
      → kind_matches l home few identity u ≡ true → kind_matches k home more identity t ≡ true
  kinds_sound AllKind l t u w c m = refl
  kinds_sound Pattern AllKind t u w c m = absurd (clash c)
  kinds_sound Pattern Pattern t u w c m = matches_through (full home t) (full home u) identity (both_true (short u) _ c).1 m
  kinds_sound Pattern Domain t u w c m = absurd (clash c)
  kinds_sound Pattern Standing t u w c m = absurd (clash c)
  kinds_sound Domain AllKind t u w c m = absurd (clash c)
  kinds_sound Domain Pattern t u w c m = begins_matched (47 ∷ 47 ∷ (t ++ (47 ∷ []))) (full home u) identity (named_starless t w) (both_true (short u) _ c).1 m
  kinds_sound Domain Domain t u w c m = ap (λ d. in_domain d identity) (sym (same_text t u c)) ∙ m
  kinds_sound Domain Standing t u w c m = absurd (clash c)
  kinds_sound Standing AllKind t u w c m = absurd (clash c)
  kinds_sound Standing Pattern t u w c m = absurd (clash c)
  kinds_sound Standing Domain t u w c m = absurd (clash c)
  kinds_sound Standing Standing t u w c m = lacks identity t (ap (few identity) (sym (same_text t u c)) ∙ m)

pub entries_sound : EntriesSound
entries_sound home o p w c few more lacks identity m =
    let lawful = both_true (text_lawful o.kind o.text) (list_all is_byte o.text) (both_true (length_lawful o.kind (length o.text)) _ w).1 in
    kinds_sound home few more lacks identity o.kind p.kind o.text p.text lawful.0 c m

module _ (home : List ℕ) (few more : Pairs) (lacks : LacksNone few more) (identity : List ℕ) where
  covers_one :
      (os : List OriginatorValue) (p : OriginatorValue) → list_all originator_lawful os ≡ true → list_any (λ o. originator_covers home o p) os ≡ true
      → originator_matches home few identity p ≡ true → list_any (originator_matches home more identity) os ≡ true
  covers_one [] p w c m = absurd (clash c)
  covers_one (o ∷ os) p w c m =
      let lawful = both_true (originator_lawful o) (list_all originator_lawful os) w in
      ⊎_elim (λ h. or_left _ _ (entries_sound home o p lawful.0 h few more lacks identity m)) (λ h. or_right _ _ (covers_one os p lawful.1 h m))
      (or_true (originator_covers home o p) _ c)

  covers_each :
      (os ps : List OriginatorValue) → list_all originator_lawful os ≡ true → originators_cover home os ps ≡ true
      → list_any (originator_matches home few identity) ps ≡ true → list_any (originator_matches home more identity) os ≡ true
  covers_each os [] w c m = absurd (clash m)
  covers_each os (p ∷ ps) w c m =
      let h = both_true (list_any (λ o. originator_covers home o p) os) _ c in
      ⊎_elim (λ a. covers_one os p w h.0 a) (λ a. covers_each os ps w h.1 a) (or_true (originator_matches home few identity p) _ m)

types_sound :
    (o : Operation) (xs ys : List ℕ) (t : Option ℕ) → list_covers eqb xs ys ≡ true → types_admit o ys t ≡ true → types_admit o xs t ≡ true
types_sound Create xs ys t c a = list_sound_option eqb eqb type_sound xs ys t c a
types_sound Retrieve xs ys t c a = refl
types_sound Update xs ys t c a = refl
types_sound Delete xs ys t c a = refl
types_sound Discover xs ys t c a = refl
types_sound Notify xs ys t c a = refl

contexts_sound : (cs ds : List ContextValue) (q : RequestValue) → list_covers context_covers cs ds ≡ true → contexts_admit ds q ≡ true → contexts_admit cs q ≡ true
contexts_sound cs ds q =
    list_sound_option in_context context_covers (λ c d q. context_sound c d (civil_of q.instant) q.address q.country) cs ds (Some q)

flags_sound : (r s q : Bool) → (not r || s) ≡ true → (not s || q) ≡ true → (not r || q) ≡ true
flags_sound true true q c a = a
flags_sound true false q c a = absurd (clash c)
flags_sound false s q c a = refl

pub rules_sound : RulesSound
unfolding rule_lawful rule_covers rule_admits
rules_sound home r s w c few more lacks q a =
    let w1 = both_true (ltb r.operations 64) _ w in
    let w2 = both_true (counts_lawful r) _ w1.1 in
    let w3 = both_true (list_all originator_lawful r.originators) _ w2.1 in
    let c1 = both_true (same_side r.side s.side) _ c in
    let c2 = both_true (not r.authenticated || s.authenticated) _ c1.1 in
    let c3 = both_true (contains r.operations s.operations) _ c2.1 in
    let c4 = both_true (originators_cover home r.originators s.originators) (lists_cover r s) c3.1 in
    let c5 = both_true (list_covers eqb r.types s.types) (list_covers context_covers r.contexts s.contexts) c4.1 in
    let a1 = both_true (rule_is_for s q) _ a in
    let a2 = both_true (contexts_admit s.contexts q) (list_any (originator_matches home few q.identity) s.originators) a1.1 in
    let b1 = both_true (not s.authenticated || q.authenticated) _ a1.0 in
    let b2 = both_true (has_operation s.operations q.operation) (types_admit q.operation s.types q.child_type_of) b1.1 in
    let flags = flags_sound r.authenticated s.authenticated q.authenticated c2.0 b1.0 in
    let operations = contains_member 6 r.operations s.operations (operation_number q.operation) c3.0 b2.0 in
    let types = types_sound q.operation r.types s.types q.child_type_of c5.0 b2.1 in
    and_true _ _ (and_true _ _ flags (and_true _ _ operations types))
    (and_true _ _ (contexts_sound r.contexts s.contexts q c5.1 a2.0) (covers_each home few more lacks q.identity r.originators s.originators w3.0 c4.0 a2.1))

-- a rule admits with more pairs what it admits with fewer
kinds_more :
    (home : List ℕ) (few more : Pairs) → LacksNone few more → (identity : List ℕ) (k : EntryKind) (t : List ℕ)
    → kind_matches k home few identity t ≡ true → kind_matches k home more identity t ≡ true
kinds_more home few more lacks identity AllKind t m = m
kinds_more home few more lacks identity Pattern t m = m
kinds_more home few more lacks identity Domain t m = m
kinds_more home few more lacks identity Standing t m = lacks identity t m

some_more :
    (home : List ℕ) (few more : Pairs) → LacksNone few more → (identity : List ℕ) (os : List OriginatorValue)
    → list_any (originator_matches home few identity) os ≡ true → list_any (originator_matches home more identity) os ≡ true
some_more home few more lacks identity [] m = m
some_more home few more lacks identity (o ∷ os) m =
    ⊎_elim (λ h. or_left _ _ (kinds_more home few more lacks identity o.kind o.text h)) (λ h. or_right _ _ (some_more home few more lacks identity os h))
    (or_true (originator_matches home few identity o) _ m)

pub members_more :
    (home : List ℕ) (few more : Pairs) → LacksNone few more → (r : RuleValue) (q : RequestValue)
    → rule_admits home few r q ≡ true → rule_admits home more r q ≡ true
unfolding rule_admits
members_more home few more lacks r q a =
    let a1 = both_true (rule_is_for r q) _ a in
    let a2 = both_true (contexts_admit r.contexts q) (list_any (originator_matches home few q.identity) r.originators) a1.1 in
    and_true _ _ a1.0 (and_true _ _ a2.0 (some_more home few more lacks q.identity r.originators a2.1))
