-- The law of a season holds. Assumes nothing.
use Rattle.std.proofs.Common.{◌≡◌, ℕ, ◌≤◌, Bool, true, false, ◌&&◌, ◌⊎◌, List, [], ◌∷◌, Some, None, Ok, Err, count_by, Option, Result, sym, refl, ap, ◌∙◌, subst, inl, inr, arith}
use Rattle.std.proofs.lemmas.Bool.{and_parts}
use Rattle.bits.specs.declared.fault.Report.{Report}
use Rattle.members.specs.Pairs.{Pairs}
use Rattle.notes.specs.Rules.{RuleValue, note_reads, rule_lawful}
use Rattle.admission.specs.Covering.{rule_covers}
use Rattle.register.specs.declared.request.Request.{Request}
use Rattle.register.specs.Answers.{Opening, Call, add, withdraw, link, unlink, judge, Answer, accepted, refused, permitted, denied, Decision, Judgement, add_refusal, link_refusal, Answers}
use Rattle.register.specs.Book.{Book, in_book, entered, marked, book}
use Rattle.register.specs.Entries.{Entry, entry_of, is_named}
use Rattle.register.specs.Faults.{Refusal}
use Rattle.register.specs.Requests.{request_value, request_refusal, counts}
use Rattle.register.specs.Season.{Met, calls, Through, number, Numbered, CountKept, ByTheBook, Accepted, CoveredBy, Wider, opened, more_added, more_linked, added, withdrawn, linked, unlinked, judged, NeverSmaller, Law}
use Rattle.register.specs.Tables.{Tables, After, Served, Placed}
use Rattle.register.proofs.Agrees.{Agrees, open_agrees, step_agrees, answer_by_book}
use Rattle.register.proofs.Ahead.{AtLeast, Ahead, ahead_empty, enter_both, enter_more, mark_both, mark_more, withdraw_both, unless_both, unless_more, unless_added, still_passes}
use Rattle.register.proofs.Counts.{count_mono}

pub through_agrees : (o : Opening) (ms : List Met) (t : Tables) → Through o ms t → Agrees o t (book o (calls ms))
through_agrees o [] t h = open_agrees o t h
through_agrees o (m ∷ ms) t (t₀, h, s) = step_agrees o m.call t₀ (book o (calls ms)) m.answer t (through_agrees o ms t₀ h) s

-- count

decision_numbered : (f : Entry → Bool) (es : List Entry) (x : Answer) → Decision (λ g. count_by g es) f x → Numbered x (count_by f es)
decision_numbered f es accepted d = absurd d
decision_numbered f es (refused y) d = absurd d
decision_numbered f es (permitted p n c) (e, named, lower) =
    (e, λ z. omega (arith, z, named, count_mono (λ e. f e && is_named p n e) f es (λ e t. (and_parts (f e) (is_named p n e) t).0)))
decision_numbered f es denied d = d

judgement_numbered : (y : Option Refusal) (f : Entry → Bool) (es : List Entry) (x : Answer) → Judgement y (λ g. count_by g es) f x → Numbered x (count_by f es)
judgement_numbered (Some y) f es x e = subst (λ z. Numbered z (count_by f es)) (sym e) tt
judgement_numbered None f es x d = decision_numbered f es x d

count_kept : (o : Opening) (cs : List Call) (c : Call) (x : Answer) → Answers o (in_book (book o cs)) c x → CountKept o cs c x
count_kept o cs (add p n note) x h = tt
count_kept o cs (withdraw p n) x h = tt
count_kept o cs (link t p) x h = tt
count_kept o cs (unlink t p) x h = tt
count_kept o cs (judge q pairs) x h =
    judgement_numbered (request_refusal o.targets q) (counts o.home (book o cs).links q pairs) (book o cs).rules x h

pub by_the_book : (o : Opening) (ms : List Met) (t : Tables) → Through o ms t → ByTheBook o ms
by_the_book o [] t h = tt
by_the_book o (m ∷ ms) t (t₀, h, s) =
    let answer = answer_by_book (through_agrees o ms t₀ h) m.call m.answer s.answer in
    (count_kept o (calls ms) m.call m.answer answer, answer, by_the_book o ms t₀ h)

-- widening

-- an accepted addition put its rule into a row
placed : (p n : ℕ) (note : List ℕ) (t t' : Tables) (x : Answer) → Served (add p n note) t x t' → x ≡ accepted → Placed p n note t t'
placed p n note t t' x s e = subst (λ y. After y t t' (Placed p n note t t')) e s.later

ok_same : (r s : RuleValue) (x : Result RuleValue Report) → x ≡ Ok r → x ≡ Ok s → r ≡ s
ok_same r s x e h = cc

abbrev rule_entry : ℕ → ℕ → RuleValue → Entry
rule_entry p n r = record { policy = p; number = n; rule = r }

module _ (home : List ℕ) (p n : ℕ) (note note' : List ℕ) (b b' : Book) (a : Ahead home b b') where
  entered_more : (x : Result RuleValue Report) → Ahead home b (entered p n x b')
  entered_more (Ok r) = enter_more a (rule_entry p n r)
  entered_more (Err e) = a

  at_least :
      (r s : RuleValue) (A : Type 0) → note_reads note ≡ Ok r → note_reads note' ≡ Ok s → rule_lawful s ≡ true
      → (note' ≡ note) ⊎ (A × CoveredBy home note note') → AtLeast home (rule_entry p n s) (rule_entry p n r)
  at_least r s A e e' lawful (inl same) = (refl, refl, inl (ok_same s r (note_reads note) (ap note_reads (sym same) ∙ e') e))
  at_least r s A e e' lawful (inr (_, (r₁, s₁, h, h', c))) =
      (refl, refl, inr (lawful, (λ i. rule_covers home (ok_same s s₁ (note_reads note') e' h' i) (ok_same r r₁ (note_reads note) e h i)) ∙ c))

  entered_both :
      (A : Type 0) (t t' u u' : Tables) → (note' ≡ note) ⊎ (A × CoveredBy home note note') → Placed p n note t t' → Placed p n note' u u'
      → Ahead home (entered p n (note_reads note) b) (entered p n (note_reads note') b')
  entered_both A t t' u u' c (i, x, y, at, free, holds, is) (j, z, w, at', free', holds', is') =
      subst (λ k. Ahead home (entered p n k b) (entered p n (note_reads note') b')) (sym holds.rule_is)
      (subst (λ k. Ahead home (entered p n (Ok (entry_of y).rule) b) (entered p n k b')) (sym holds'.rule_is)
      (enter_both a (rule_entry p n (entry_of y).rule) (rule_entry p n (entry_of w).rule)
      (at_least (entry_of y).rule (entry_of w).rule A holds.rule_is holds'.rule_is holds'.lawful c)))

pub ahead : (o : Opening) {ms ns : List Met} (t u : Tables) → Wider o.home ms ns → Through o ms t → Through o ns u → Ahead o.home (book o (calls ms)) (book o (calls ns))
ahead o t u opened h k = ahead_empty o.home
ahead o t u (more_added {ns = ns} {p = p} {n = n} {note = note} w) h (u₀, k, s) =
    let a = ahead o t u₀ w h k in
    unless_more o.home (add_refusal o (in_book (book o (calls ns))) p n note) _ (entered p n (note_reads note) (book o (calls ns))) _ a (entered_more o.home p n note note _ _ a (note_reads note))
ahead o t u (more_linked {t = k} {p = p} w) h (u₀, l, s) =
    let a = ahead o t u₀ w h l in
    unless_more o.home (link_refusal o.targets k p) _ _ _ a (mark_more a k p)
ahead o t u (added {ms = ms} {ns = ns} {p = p} {n = n} {note = note} {note' = note'} {a = x} {a' = x'} w c ok) (t₀, h, s) (u₀, k, s') =
    let a = ahead o t₀ u₀ w h k in
    let b = book o (calls ms) in
    let b' = book o (calls ns) in
    unless_added o.home (add_refusal o (in_book b) p n note) (add_refusal o (in_book b') p n note') x x'
    (entered p n (note_reads note) b) (entered p n (note_reads note') b') b b'
    (answer_by_book (through_agrees o ms t₀ h) (add p n note) x s.answer)
    (answer_by_book (through_agrees o ns u₀ k) (add p n note') x' s'.answer)
    ok a (entered_more o.home p n note note' b b' a (note_reads note'))
    (λ e e'. entered_both o.home p n note note' b b' a (Accepted x) t₀ t u₀ u c (placed p n note t₀ t x s e) (placed p n note' u₀ u x' s' e'))
ahead o t u (withdrawn {ms = ms} {ns = ns} {p = p} {n = n} w) (t₀, h, s) (u₀, k, s') =
    withdraw_both o.home (book o (calls ms)) (book o (calls ns)) p n (ahead o t₀ u₀ w h k)
ahead o t u (linked {ms = ms} {ns = ns} {t = k} {p = p} w ok) (t₀, h, s) (u₀, l, s') =
    let a = ahead o t₀ u₀ w h l in
    unless_both o.home (link_refusal o.targets k p) (marked true k p (book o (calls ms))) (marked true k p (book o (calls ns))) _ _ a (mark_both a true k p)
ahead o t u (unlinked {ms = ms} {ns = ns} {t = k} {p = p} w) (t₀, h, s) (u₀, l, s') =
    let a = ahead o t₀ u₀ w h l in
    unless_both o.home (link_refusal o.targets k p) (marked false k p (book o (calls ms))) (marked false k p (book o (calls ns))) _ _ a (mark_both a false k p)
ahead o t u (judged w more) (t₀, h, s) (u₀, k, s') = ahead o t₀ u₀ w h k

-- the number in an answer that is no refusal
asked : Option Refusal → ℕ → ℕ
asked (Some x) n = 0
asked None n = n

asked_more : (x : Option Refusal) (m n : ℕ) → m ≤ n → asked x m ≤ asked x n
unfolding asked
asked_more (Some x) m n h = omega arith
asked_more None m n h = h

decision_number : (f : Entry → Bool) (es : List Entry) (x : Answer) → Decision (λ g. count_by g es) f x → number x ≡ count_by f es
decision_number f es accepted d = absurd d
decision_number f es (refused y) d = absurd d
decision_number f es (permitted p n c) d = d.0
decision_number f es denied d = sym d

judged_number : (y : Option Refusal) (f : Entry → Bool) (es : List Entry) (x : Answer) → Judgement y (λ g. count_by g es) f x → number x ≡ asked y (count_by f es)
unfolding asked
judged_number (Some y) f es x e = ap number e
judged_number None f es x d = decision_number f es x d

pub never_smaller : (o : Opening) {ms ns : List Met} (t u : Tables) (w : Wider o.home ms ns) → Through o ms t → Through o ns u → NeverSmaller w
never_smaller o t u opened h k = tt
never_smaller o t u (more_added w) h (u₀, k, s) = never_smaller o t u₀ w h k
never_smaller o t u (more_linked w) h (u₀, k, s) = never_smaller o t u₀ w h k
never_smaller o t u (added w c ok) (t₀, h, s) (u₀, k, s') = never_smaller o t₀ u₀ w h k
never_smaller o t u (withdrawn w) (t₀, h, s) (u₀, k, s') = never_smaller o t₀ u₀ w h k
never_smaller o t u (linked w ok) (t₀, h, s) (u₀, k, s') = never_smaller o t₀ u₀ w h k
never_smaller o t u (unlinked w) (t₀, h, s) (u₀, k, s') = never_smaller o t₀ u₀ w h k
never_smaller o t u (judged {ms = ms} {ns = ns} {q = q} {few = few} {more = more} {a = x} {a' = x'} w lacks) (t₀, h, s) (u₀, k, s') =
    let a = ahead o t₀ u₀ w h k in
    let b = book o (calls ms) in
    let b' = book o (calls ns) in
    let le = a.rules (counts o.home b.links q few) (counts o.home b'.links q more) (still_passes o.home few more lacks b.links b'.links a.links q.target (request_value q)) in
    let first = judged_number (request_refusal o.targets q) (counts o.home b.links q few) b.rules x (answer_by_book (through_agrees o ms t₀ h) (judge q few) x s.answer) in
    let second = judged_number (request_refusal o.targets q) (counts o.home b'.links q more) b'.rules x' (answer_by_book (through_agrees o ns u₀ k) (judge q more) x' s'.answer) in
    (omega (arith, first, second, asked_more (request_refusal o.targets q) _ _ le), never_smaller o t₀ u₀ w h k)

pub season_law : (o : Opening) (ms : List Met) (t : Tables) → Through o ms t → Law o ms
season_law o ms t h = (by_the_book o ms t h, λ ns u k w. never_smaller o t u w h k)

pub judge_law :
    (q : Request) (pairs : Pairs) (t : Tables) (x : Answer) → Served (judge q pairs) t x t
    → (o : Opening) (ms : List Met) → Through o ms t → Law o (record { call = judge q pairs; answer = x } ∷ ms)
judge_law q pairs t x s o ms h = season_law o (record { call = judge q pairs; answer = x } ∷ ms) t (t, h, s)
