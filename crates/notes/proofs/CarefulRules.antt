-- The parts of a rule, and rules, are refused at the first field that breaks its rule. Assumes nothing.
use Rattle.std.proofs.Common.{◌≡◌, ℕ, ◌<◌, ◌≤◌, Bool, true, leb, sym, arith, leb-true}
use borrow.Author.Tests.{clash}
use Rattle.bits.specs.Codec.{field}
use Rattle.notes.specs.Readings.{guard}
use Rattle.notes.specs.Families.{width, family_reads}
use Rattle.notes.specs.Sets.{set_reads}
use Rattle.notes.specs.Windows.{clock_reads, date_reads, window_reads}
use Rattle.notes.specs.Blocks.{block_reads}
use Rattle.notes.specs.Countries.{country_reads}
use Rattle.notes.specs.Contexts.{count_reads, counts_reads, context_reads}
use Rattle.notes.specs.Originators.{length_lawful, text_lawful, kind_reads, text_reads, originator_reads}
use Rattle.notes.specs.Rules.{head_reads, rule_reads}
use Rattle.notes.specs.declared.originator.EntryKind.{EntryKind}
use Rattle.notes.specs.declared.originator.EntryKind.TheVariants.{All, Pattern, Domain, Standing}
use Rattle.texts.proofs.Bools.{both_true}
use Rattle.notes.specs.BlocksLemmas.{width_within}
use Rattle.notes.specs.OriginatorsLemmas.{length_kept}
use Rattle.notes.proofs.Careful.{Careful, careful_field, starts_field, careful_text, starts_text, careful_guard, careful_made, careful_seq, careful_then, careful_times}

-- a field with a test
careful_tested : (t : ℕ → Bool) (n w : ℕ) → (0 < w) × (w ≤ 128) → Careful (guard t n (field w))
careful_tested t n w h = careful_guard t n (careful_field w h.1) (λ _ _. starts_field w h.0)

careful_set : (w : ℕ) → (0 < w) × (w ≤ 128) → Careful (set_reads w)
careful_set w h = careful_tested _ 4 w h

careful_count : (w low high : ℕ) → (0 < w) × (w ≤ 128) → Careful (count_reads w low high)
careful_count w low high h = careful_tested _ 2 w h

careful_clock : Careful clock_reads
careful_clock = careful_made _ (careful_then (careful_set 60 (omega arith)) (careful_then (careful_set 60 (omega arith)) (careful_set 24 (omega arith))))

careful_date : Careful date_reads
careful_date =
    careful_made _
    (careful_then (careful_set 31 (omega arith)) (careful_then (careful_set 12 (omega arith))
    (careful_then (careful_set 7 (omega arith)) (careful_set 100 (omega arith)))))

careful_window : Careful window_reads
careful_window = careful_made _ (careful_then careful_clock careful_date)

careful_family : Careful family_reads
careful_family = careful_made _ (careful_field 1 (omega arith))

careful_block : Careful block_reads
careful_block =
    careful_made _
    (careful_seq careful_family (λ f _ _ _ _. careful_seq (careful_tested _ 5 8 (omega arith))
    (λ p _ _ _ _. let w = width_within f in careful_tested _ 5 (width f) (omega arith))))

careful_country : Careful country_reads
careful_country = careful_made _ (careful_then (careful_tested _ 6 8 (omega arith)) (careful_tested _ 6 8 (omega arith)))

careful_counts : Careful counts_reads
careful_counts = careful_made _ (careful_then (careful_count 3 0 4 (omega arith)) (careful_then (careful_count 3 0 4 (omega arith)) (careful_count 2 0 2 (omega arith))))

careful_context : Careful context_reads
careful_context =
    careful_made _
    (careful_seq careful_counts (λ n _ _ _ _. careful_then (careful_times careful_window n.windows)
    (careful_then (careful_times careful_block n.blocks) (careful_times careful_country n.countries))))

careful_kind : Careful kind_reads
careful_kind = careful_made _ (careful_field 2 (omega arith))

-- the text of `all` is not tested, and every other text is not empty
careful_part : (k : EntryKind) (n : ℕ) → length_lawful k n ≡ true → Careful (text_reads k n)
careful_part All n l = careful_guard (text_lawful All) 3 (careful_text n) (λ _ e. absurd (clash (sym e)))
careful_part Pattern n l = careful_guard (text_lawful Pattern) 3 (careful_text n) (λ _ _. starts_text n (leb-true 1 n (both_true (leb 1 n) (leb n 40) l).0))
careful_part Domain n l = careful_guard (text_lawful Domain) 3 (careful_text n) (λ _ _. starts_text n (leb-true 1 n (both_true (leb 1 n) (leb n 40) l).0))
careful_part Standing n l = careful_guard (text_lawful Standing) 3 (careful_text n) (λ _ _. starts_text n (leb-true 1 n (both_true (leb 1 n) (leb n 40) l).0))

careful_originator : Careful originator_reads
careful_originator =
    careful_made _
    (careful_seq careful_kind (λ k _ _ _ _. careful_seq (careful_tested (length_lawful k) 2 6 (omega arith))
    (λ n ds p q e. careful_part k n (length_kept k ds p n q e))))

careful_head : Careful head_reads
careful_head =
    careful_made _
    (careful_then (careful_field 1 (omega arith)) (careful_then (careful_field 1 (omega arith)) (careful_then (careful_field 6 (omega arith))
    (careful_then (careful_count 3 1 4 (omega arith)) (careful_then (careful_count 2 0 2 (omega arith)) (careful_count 3 0 4 (omega arith)))))))

pub careful_rule : Careful rule_reads
careful_rule =
    careful_made _
    (careful_seq careful_head (λ h _ _ _ _. careful_then (careful_times careful_originator h.originators)
    (careful_then (careful_times (careful_field 16 (omega arith)) h.child_types) (careful_times careful_context h.contexts))))
