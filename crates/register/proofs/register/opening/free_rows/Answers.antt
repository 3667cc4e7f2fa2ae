use Rattle.std.proofs.Common.{set, None, ap, ◌∙◌, arith}
use Rattle.std.proofs.lemmas.List.{get_or_default}
use Rattle.std.proofs.lemmas.List.Edits.{map_over_more}
use Rattle.register.specs.Entries.{freed}
use Rattle.register.proofs.register.opening.free_rows.Goals as goal

pub loop-row-preserved : goal.loop-row-preserved
loop-row-preserved c =
    let rows = c.loop-row.rows in
    let i = c.loop-row.row-index in
    ap (set rows i) c.mark_free.ensures ∙ map_over_more freed c.args.rows.now rows i _ c.loop-row-test.true c.loop-row.invariant (get_or_default rows i (record { held = None }) _ (omega arith))
