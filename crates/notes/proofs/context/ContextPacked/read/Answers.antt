use Rattle.std.proofs.Common.{◌≡◌, Ok, ap, ◌∙◌}
use Rattle.std.proofs.lemmas.List.{map-id}
use Rattle.bits.specs.Digits.{bits}
use Rattle.bits.specs.Reader.{source, place}
use Rattle.texts.specs.Few.{listed}
use Rattle.notes.specs.Readings.{seq, mapped, times}
use Rattle.notes.specs.Windows.{window_reads}
use Rattle.notes.specs.Blocks.{block_reads}
use Rattle.notes.specs.Countries.{country_reads}
use Rattle.notes.specs.Contexts.{counts_reads}
use Rattle.notes.specs.ReadingsLemmas.{seq_ok}
use Rattle.notes.proofs.context.ContextPacked.read.Goals as goal

pub returns : goal.returns
returns c =
    let n = c.in_ok-counts.counts in
    let ws = listed c.in_ok-windows.windows in
    let bs = listed c.in_ok-blocks.blocks in
    let cs = listed c.in_ok-countries.countries in
    let one = c.in_ok-counts.ensures.read in
    let two = c.in_ok-windows.ensures.read in
    let three = c.in_ok-blocks.ensures.read in
    let four = c.in_ok-countries.ensures.read in
    let at0 = place c.args.r.now in
    let at1 = place c.read.new.r in
    let at2 = place c.read_list.new.r in
    let at3 = place c.read_list-2.new.r in
    let at4 = place c.read_list-3.new.r in
    let second : times n.windows window_reads (source c.read.new.r) at1 ≡ Ok (ws, at2) = two.cases ∙ (λ i. Ok (map-id ws i, at2)) in
    let third : times n.blocks block_reads (source c.read_list.new.r) at2 ≡ Ok (bs, at3) = three.cases ∙ (λ i. Ok (map-id bs i, at3)) in
    let fourth : times n.countries country_reads (source c.read_list-2.new.r) at3 ≡ Ok (cs, at4) = four.cases ∙ (λ i. Ok (map-id cs i, at4)) in
    let tail = seq_ok (times n.blocks block_reads) (λ _. times n.countries country_reads) _ _ at2 at3 at4 bs cs third (ap bits three.kept) fourth in
    let items = seq_ok (times n.windows window_reads) (λ _. seq (times n.blocks block_reads) (λ _. times n.countries country_reads)) _ _ at1 at2 at4 ws (bs, cs) second (ap bits two.kept) tail in
    let all =
    seq_ok counts_reads (λ k. seq (times k.windows window_reads) (λ _. seq (times k.blocks block_reads) (λ _. times k.countries country_reads))) _ _ at0 at1 at4 n (ws, (bs, cs)) one.cases
    (ap bits one.kept) items in
    record {
      kept = four.kept ∙ three.kept ∙ two.kept ∙ one.kept;
      cases = ap (mapped (λ z. record { windows = z.1.0; blocks = z.1.1.0; countries = z.1.1.1 })) all;
    }
