-- Contexts read back. Assumes nothing.
use Rattle.std.specs.Prelude.{◌≡◌, ℕ, ◌+◌, ◌^◌, ◌<◌, ◌≤◌, Bool, true, ◌&&◌, List, [], ◌∷◌, ◌++◌, length, nat_le, refl}
use Rattle.std.proofs.Common.{◌∙◌, arith, length-append, leb-true}
use Rattle.std.specs.List.{AllByRecursion, flat_map, list_all}
use Rattle.bits.specs.Digits.{digits}
use Rattle.bits.specs.Codec.{Lawful}
use Rattle.bits.proofs.DigitLaws.{length_digits}
use Rattle.bits.proofs.Codecs.{lawful_field}
use Rattle.notes.specs.Windows.{window_lawful, window_form}
use Rattle.notes.specs.Blocks.{block_lawful, block_form}
use Rattle.notes.specs.Countries.{country_lawful, country_form}
use Rattle.notes.specs.Contexts.{ContextValue, within, count_reads, counts_lawful, context_lawful, counts_form, context_form, counts_reads, context_reads}
use Rattle.notes.specs.declared.context.Counts.{Counts}
use Rattle.texts.proofs.Bools.{both_true, and_true}
use Rattle.notes.specs.ReadingsLemmas.{lawful_guard, lawful_iff, lawful_made, lawful_seq, lawful_times}
use Rattle.notes.specs.WindowsLemmas.{lawful_window}
use Rattle.notes.specs.BlocksLemmas.{lawful_block}
use Rattle.notes.specs.CountriesLemmas.{lawful_country}

pub every_each : {X : Type 0} (p : X → Bool) (xs : List X) → list_all p xs ≡ true → AllByRecursion (λ x. p x ≡ true) xs
every_each p [] e = tt
every_each p (x ∷ xs) e = let b = both_true (p x) (list_all p xs) e in (b.0, every_each p xs b.1)

pub each_every : {X : Type 0} (p : X → Bool) (xs : List X) → AllByRecursion (λ x. p x ≡ true) xs → list_all p xs ≡ true
each_every p [] h = refl
each_every p (x ∷ xs) h = and_true (p x) (list_all p xs) h.0 (each_every p xs h.1)

-- a count whose limit fits its width
pub lawful_count : (w low high : ℕ) → w ≤ 128 → high < 2 ^ w → Lawful (λ n. within low high n ≡ true) (digits w) (count_reads w low high)
lawful_count w low high h fits =
    lawful_iff (λ n e. let few : n ≤ high = leb-true n high (both_true (nat_le low n) (nat_le n high) e).1 in (omega arith, e)) (λ n k. k.1)
    (lawful_guard (within low high) 2 (lawful_field w h))

abbrev CountsOk : Counts → Type 0
CountsOk n = (within 0 4 n.windows ≡ true) × ((within 0 4 n.blocks ≡ true) × (within 0 2 n.countries ≡ true))

lawful_counts : Lawful CountsOk (λ n. digits 3 n.windows ++ (digits 3 n.blocks ++ digits 2 n.countries)) counts_reads
lawful_counts =
    lawful_made CountsOk (λ z. record { windows = z.0; blocks = z.1.0; countries = z.1.1 }) (λ n. (n.windows, (n.blocks, n.countries)))
    (λ n h. (h, refl)) (λ z h. (h, refl))
    (lawful_seq (lawful_count 3 0 4 (omega arith) (omega arith)) (λ _ _. lawful_seq (lawful_count 3 0 4 (omega arith) (omega arith)) (λ _ _. lawful_count 2 0 2 (omega arith) (omega arith))))

pub lawful_context : Lawful (λ c. context_lawful c ≡ true) context_form context_reads
lawful_context =
    lawful_made (λ c. context_lawful c ≡ true) (λ z. record { windows = z.1.0; blocks = z.1.1.0; countries = z.1.1.1 })
    (λ c. (record { windows = length c.windows; blocks = length c.blocks; countries = length c.countries }, (c.windows, (c.blocks, c.countries))))
    (λ c h.
    let a = both_true (counts_lawful c) _ h in
    let n = both_true (within 0 4 (length c.windows)) _ a.0 in
    let m = both_true (within 0 4 (length c.blocks)) (within 0 2 (length c.countries)) n.1 in
    let i = both_true (list_all window_lawful c.windows) _ a.1 in
    let j = both_true (list_all block_lawful c.blocks) (list_all country_lawful c.countries) i.1 in
    (((n.0, m), ((refl, every_each window_lawful c.windows i.0), ((refl, every_each block_lawful c.blocks j.0), (refl, every_each country_lawful c.countries j.1)))), refl))
    (λ z h.
    let ws = h.1.0 in
    let bs = h.1.1.0 in
    let cs = h.1.1.1 in
    let counted : counts_lawful (record { windows = z.1.0; blocks = z.1.1.0; countries = z.1.1.1 }) ≡ true =
    (λ k. within 0 4 (ws.0 k) && (within 0 4 (bs.0 k) && within 0 2 (cs.0 k))) ∙ and_true _ _ h.0.0 (and_true _ _ h.0.1.0 h.0.1.1) in (
      and_true _ _ counted
          (and_true _ _ (each_every window_lawful z.1.0 ws.1) (and_true _ _ (each_every block_lawful z.1.1.0 bs.1) (each_every country_lawful z.1.1.1 cs.1))),
      (λ k. (record { windows = ws.0 k; blocks = bs.0 k; countries = cs.0 k }, z.1)),
    ))
    (lawful_seq lawful_counts (λ n _. lawful_seq (lawful_times lawful_window n.windows) (λ _ _. lawful_seq (lawful_times lawful_block n.blocks) (λ _ _. lawful_times lawful_country n.countries))))

pub counts_long : (c : ContextValue) → length (counts_form c) ≡ 8
counts_long c = simp (length-append, length_digits) refl

pub context_long : (c : ContextValue) → length (context_form c) ≡ 8 + (length (flat_map window_form c.windows) + (length (flat_map block_form c.blocks) + length (flat_map country_form c.countries)))
context_long c =
    let items = flat_map window_form c.windows ++ (flat_map block_form c.blocks ++ flat_map country_form c.countries) in
    let long : length items ≡ length (flat_map window_form c.windows) + (length (flat_map block_form c.blocks) + length (flat_map country_form c.countries)) = simp length-append refl in
    length-append (counts_form c) items ∙ omega (arith, counts_long c)
