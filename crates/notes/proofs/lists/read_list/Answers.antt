use Rattle.std.proofs.Common.{◌≡◌, ◌+◌, [], ◌∷◌, ◌++◌, length, map, Ok, Err, sym, ap, ◌∙◌, subst, arith, length-append}
use Rattle.std.proofs.lemmas.List.{map-append}
use Rattle.std.proofs.lemmas.Result.{err_from_is_err_and}
use Rattle.bits.specs.Digits.{bits}
use Rattle.bits.specs.Reader.{bytes, source, place}
use Rattle.texts.specs.Few.{listed}
use Rattle.notes.specs.Faults.{report}
use Rattle.notes.specs.Readings.{times}
use Rattle.notes.specs.Told.{ToldAs}
use Rattle.notes.specs.ReadingsLemmas.{Sofar, one_more, failed, all_read}
use Rattle.notes.proofs.lists.read_list.Goals as goal

pub loop-i-preserved : goal.loop-i-preserved
loop-i-preserved g c =
    let reads = g.I.Item.reads in
    let r = c.args.r.now in
    let meant = g.I.Item.meant (bytes r) in
    let told = c.in_ok-x.ensures in
    let x = c.in_ok-x.x in
    let q = place c.loop-i.r in
    let m = place c.read_item.new.r in
    let items = listed c.loop-i.items in
    let inv = c.loop-i.invariant in
    let pushed = rw c.unwrap.ensures at c.push.ensures in
    let here : reads (source r) q ≡ Ok (meant x, m) = subst (λ bs. reads (bits bs) q ≡ Ok (g.I.Item.meant bs x, m)) inv.kept told.read.cases in
    let next = one_more reads (source r) c.args.n (place r) c.loop-i._i (map meant items) q (meant x) m c.loop-i-test.true inv.sofar here in
    let more : map meant (listed c.push.new.self) ≡ map meant items ++ (meant x ∷ []) = ap (map meant) pushed.1 ∙ map-append meant items (x ∷ []) in
    record {
      kept = told.read.kept ∙ inv.kept;
      size = omega (arith, ap length pushed.1, length-append items (x ∷ []));
      begins = told.behind;
      sofar = subst (λ xs. Sofar reads (source r) c.args.n (place r) (c.loop-i._i + 1) xs m) (sym more) next;
    }

pub returns-in_err-x-clause-read : goal.returns-in_err-x-clause-read
returns-in_err-x-clause-read g c =
    let reads = g.I.Item.reads in
    let r = c.args.r.now in
    let meant = g.I.Item.meant (bytes r) in
    let told = c.in_err-x.ensures.read in
    let e = c.in_err-x.field-0.0 in
    let p = err_from_is_err_and c.from_residual.result c.from_residual.ensures.1 in
    let q = place c.loop-i.r in
    let bad : reads (source r) q ≡ Err (report e) = subst (λ bs. reads (bits bs) q ≡ Err (report e)) c.loop-i.invariant.kept told.cases in
    record {
      kept = told.kept ∙ c.loop-i.invariant.kept;
      cases = subst (λ o. ToldAs (λ l. map meant (listed l)) (times c.args.n reads) (source r) (place r) o (place c.read_item.new.r)) (sym (p.1 ∙ ap Err p.2))
          (failed reads (source r) c.args.n (place r) c.loop-i._i _ q (report e) c.loop-i-test.true c.loop-i.invariant.sofar bad);
    }

pub returns-clause-read : goal.returns-clause-read
returns-clause-read g c =
    let r = c.args.r.now in
    record {
      kept = c.loop-i.invariant.kept;
      cases = all_read g.I.Item.reads (source r) c.args.n (place r) c.loop-i._i _ (place c.loop-i.r) c.loop-i-test.false c.loop-i.invariant.sofar;
    }
