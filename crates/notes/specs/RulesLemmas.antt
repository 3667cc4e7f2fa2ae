-- Rules read back. Assumes nothing.
use Rattle.std.specs.Prelude.{◌≡◌, ℕ, zero, suc, ◌+◌, ◌*◌, ◌^◌, ◌<◌, ◌≤◌, Bool, true, false, ◌&&◌, List, [], ◌∷◌, ◌++◌, length, ◌==◌, nat_le, nat_lt, refl}
use Rattle.std.proofs.Common.{◌∙◌, suc-mul, arith, length-append, leb-true, lt-ltb, ltb-true}
use Rattle.std.specs.List.{flat_map, list_all}
use Rattle.bits.specs.Digits.{digits}
use Rattle.bits.specs.Codec.{field, Lawful}
use Rattle.bits.proofs.DigitLaws.{length_digits}
use Rattle.bits.proofs.Codecs.{lawful_field}
use Rattle.notes.specs.Sets.{spelt}
use Rattle.notes.specs.Windows.{window_lawful, window_form}
use Rattle.notes.specs.Blocks.{block_lawful, block_form}
use Rattle.notes.specs.Countries.{country_lawful, country_form}
use Rattle.notes.specs.Contexts.{ContextValue, within, counts_lawful as context_counts, context_lawful, context_form}
use Rattle.notes.specs.Originators.{OriginatorValue, length_lawful, originator_lawful, originator_form}
use Rattle.notes.specs.Rules.{RuleValue, side_code, side_coded, flag_code, counts_lawful, type_lawful, rule_lawful, head_of, head_form, rule_form, head_reads, rule_reads}
use Rattle.notes.specs.declared.block.Block.{Block}
use Rattle.notes.specs.declared.rule.Side.{Side}
use Rattle.notes.specs.declared.rule.Side.TheVariants.{Privileges, SelfPrivileges}
use Rattle.notes.specs.declared.rule.Head.{Head}
use Rattle.texts.proofs.Bools.{both_true, and_true}
use Rattle.notes.specs.ReadingsLemmas.{lawful_iff, lawful_made, lawful_seq, lawful_times}
use Rattle.notes.specs.WindowsLemmas.{window_long}
use Rattle.notes.specs.BlocksLemmas.{block_long, width_within}
use Rattle.notes.specs.CountriesLemmas.{country_long}
use Rattle.notes.specs.ContextsLemmas.{every_each, each_every, lawful_count, lawful_context, context_long}
use Rattle.notes.specs.OriginatorsLemmas.{lawful_originator, originator_long, length_below}

side_back : (s : Side) → (side_code s < 2 ^ 1) × (side_coded (side_code s) ≡ s)
side_back Privileges = (omega arith, refl)
side_back SelfPrivileges = (omega arith, refl)

flag_back : (b : Bool) → (flag_code b < 2 ^ 1) × ((flag_code b == 1) ≡ b)
flag_back true = (omega arith, refl)
flag_back false = (omega arith, refl)

code_forth : (n : ℕ) → n < 2 ^ 1 → (side_code (side_coded n) ≡ n) × (flag_code (n == 1) ≡ n)
code_forth zero h = (refl, refl)
code_forth (suc zero) h = (refl, refl)
code_forth (suc (suc n)) h = absurd (omega arith)

abbrev HeadOk : Head → Type 0
HeadOk h = (h.operations.bits < 2 ^ 6) × ((within 1 4 h.originators ≡ true) × ((within 0 2 h.contexts ≡ true) × (within 0 4 h.child_types ≡ true)))

lawful_head : Lawful HeadOk head_form head_reads
lawful_head =
    lawful_made HeadOk
    (λ z. record { side = side_coded z.0; authenticated = (z.1.0 == 1); operations = spelt z.1.1.0; originators = z.1.1.1.0; contexts = z.1.1.1.1.0; child_types = z.1.1.1.1.1 })
    (λ h. (side_code h.side, (flag_code h.authenticated, (h.operations.bits, (h.originators, (h.contexts, h.child_types))))))
    (λ h ok.
    let s = side_back h.side in
    let f = flag_back h.authenticated in (
      (s.0, (f.0, ok)),
      (λ i. record { side = s.1 i; authenticated = f.1 i; operations = h.operations; originators = h.originators; contexts = h.contexts; child_types = h.child_types }),
    ))
    (λ z ok. (ok.1.1, (λ i. ((code_forth z.0 ok.0).0 i, ((code_forth z.1.0 ok.1.0).1 i, z.1.1)))))
    (lawful_seq (lawful_field 1 (omega arith)) (λ _ _. lawful_seq (lawful_field 1 (omega arith)) (λ _ _. lawful_seq (lawful_field 6 (omega arith))
    (λ _ _. lawful_seq (lawful_count 3 1 4 (omega arith) (omega arith)) (λ _ _. lawful_seq (lawful_count 2 0 2 (omega arith) (omega arith)) (λ _ _. lawful_count 3 0 4 (omega arith) (omega arith)))))))

pub lawful_type : Lawful (λ t. type_lawful t ≡ true) (digits 16) (field 16)
lawful_type = lawful_iff (λ t e. ltb-true t (2 ^ 16) e) (λ t h. lt-ltb t (2 ^ 16) h) (lawful_field 16 (omega arith))

pub head_long : (h : Head) → length (head_form h) ≡ 16
head_long h = simp (length-append, length_digits) refl

pub rule_long : (r : RuleValue) → length (rule_form r) ≡ 16 + (length (flat_map originator_form r.originators) + (length (flat_map (digits 16) r.types) + length (flat_map context_form r.contexts)))
rule_long r =
    let rest = flat_map originator_form r.originators ++ (flat_map (digits 16) r.types ++ flat_map context_form r.contexts) in
    let long : length rest ≡ length (flat_map originator_form r.originators) + (length (flat_map (digits 16) r.types) + length (flat_map context_form r.contexts)) = simp length-append refl in
    length-append (head_form (head_of r)) rest ∙ omega (arith, head_long (head_of r))

within_most : (low high n : ℕ) → within low high n ≡ true → n ≤ high
within_most low high n e = leb-true n high (both_true (nat_le low n) (nat_le n high) e).1

pub lawful_rule : Lawful (λ r. rule_lawful r ≡ true) rule_form rule_reads
unfolding rule_lawful
lawful_rule =
    lawful_made (λ r. rule_lawful r ≡ true)
    (λ z. record { side = z.0.side; authenticated = z.0.authenticated; operations = z.0.operations.bits; originators = z.1.0; types = z.1.1.0; contexts = z.1.1.1 })
    (λ r. (head_of r, (r.originators, (r.types, r.contexts))))
    (λ r h.
    let a = both_true (nat_lt r.operations (2 ^ 6)) _ h in
    let b = both_true (counts_lawful r) _ a.1 in
    let n = both_true (within 1 4 (length r.originators)) _ b.0 in
    let m = both_true (within 0 2 (length r.contexts)) (within 0 4 (length r.types)) n.1 in
    let c = both_true (list_all originator_lawful r.originators) _ b.1 in
    let d = both_true (list_all type_lawful r.types) (list_all context_lawful r.contexts) c.1 in (
      (
        (ltb-true _ _ a.0, (n.0, m)),
        ((refl, every_each originator_lawful r.originators c.0), ((refl, every_each type_lawful r.types d.0), (refl, every_each context_lawful r.contexts d.1))),
      ),
      refl,
    ))
    (λ z h.
    let os = h.1.0 in
    let ts = h.1.1.0 in
    let cs = h.1.1.1 in
    let counted : within 1 4 (length z.1.0) && (within 0 2 (length z.1.1.1) && within 0 4 (length z.1.1.0)) ≡ true =
    (λ i. within 1 4 (os.0 i) && (within 0 2 (cs.0 i) && within 0 4 (ts.0 i))) ∙ and_true _ _ h.0.1.0 (and_true _ _ h.0.1.1.0 h.0.1.1.1) in (
      and_true _ _ (lt-ltb _ _ h.0.0)
          (and_true _ _ counted (and_true _ _ (each_every originator_lawful z.1.0 os.1) (and_true _ _ (each_every type_lawful z.1.1.0 ts.1) (each_every context_lawful z.1.1.1 cs.1)))),
      (λ i. (record { side = z.0.side; authenticated = z.0.authenticated; operations = z.0.operations; originators = os.0 i; contexts = cs.0 i; child_types = ts.0 i }, z.1)),
    ))
    (lawful_seq lawful_head (λ h _. lawful_seq (lawful_times lawful_originator h.originators) (λ _ _. lawful_seq (lawful_times lawful_type h.child_types) (λ _ _. lawful_times lawful_context h.contexts))))

-- a joined list is no longer than its items allow
joined_short : {X : Type 0} (f : X → List ℕ) (ok : X → Bool) (k : ℕ) → ((x : X) → ok x ≡ true → length (f x) ≤ k) → (xs : List X) → list_all ok xs ≡ true → length (flat_map f xs) ≤ length xs * k
joined_short f ok k few [] h = omega arith
joined_short f ok k few (x ∷ xs) h =
    let b = both_true (ok x) (list_all ok xs) h in
    omega (arith, length-append (f x) (flat_map f xs), joined_short f ok k few xs b.1, suc-mul (length xs) k, few x b.0)

block_short : (b : Block) → length (block_form b) ≤ 137
block_short b = omega (arith, block_long b, width_within b.family)

context_short : (c : ContextValue) → context_lawful c ≡ true → length (context_form c) ≤ 1764
context_short c h =
    let a = both_true (context_counts c) _ h in
    let n = both_true (within 0 4 (length c.windows)) _ a.0 in
    let m = both_true (within 0 4 (length c.blocks)) (within 0 2 (length c.countries)) n.1 in
    let i = both_true (list_all window_lawful c.windows) _ a.1 in
    let j = both_true (list_all block_lawful c.blocks) (list_all country_lawful c.countries) i.1 in
    let ws = joined_short window_form window_lawful 294 (λ w _. omega (arith, window_long w)) c.windows i.0 in
    let bs = joined_short block_form block_lawful 137 (λ b _. block_short b) c.blocks j.0 in
    let cs = joined_short country_form country_lawful 16 (λ k _. omega (arith, country_long k)) c.countries j.1 in
    omega (arith, context_long c, within_most 0 4 (length c.windows) n.0, within_most 0 4 (length c.blocks) m.0, within_most 0 2 (length c.countries) m.1)

-- the longest rule
pub rule_short : (r : RuleValue) → rule_lawful r ≡ true → length (rule_form r) ≤ 8 * 615
unfolding rule_lawful
rule_short r h =
    let a = both_true (nat_lt r.operations (2 ^ 6)) _ h in
    let b = both_true (counts_lawful r) _ a.1 in
    let n = both_true (within 1 4 (length r.originators)) _ b.0 in
    let m = both_true (within 0 2 (length r.contexts)) (within 0 4 (length r.types)) n.1 in
    let c = both_true (list_all originator_lawful r.originators) _ b.1 in
    let d = both_true (list_all type_lawful r.types) (list_all context_lawful r.contexts) c.1 in
    let os = joined_short originator_form originator_lawful 328 originator_short r.originators c.0 in
    let ts = joined_short (digits 16) type_lawful 16 (λ t _. omega (arith, length_digits 16 t)) r.types d.0 in
    let cs = joined_short context_form context_lawful 1764 context_short r.contexts d.1 in
    omega (arith, rule_long r, within_most 1 4 (length r.originators) n.0, within_most 0 2 (length r.contexts) m.0, within_most 0 4 (length r.types) m.1)
  where
    originator_short : (o : OriginatorValue) → originator_lawful o ≡ true → length (originator_form o) ≤ 328
    originator_short o e = omega (arith, originator_long o, length_below o.kind (length o.text) (both_true (length_lawful o.kind (length o.text)) _ e).0)
