use Rattle.std.proofs.Common.{sym, subst, arith}
use Rattle.bits.specs.Writer.{Wrote}
use Rattle.notes.proofs.Writings.{wrote_none, wrote_then, joined_next, joined_room}
use Rattle.notes.proofs.lists.write_list.Goals as goal

pub loop-x-init : goal.loop-x-init
loop-x-init g c = wrote_none c.args.w.now (omega arith)

pub write_item-requires : goal.write_item-requires
write_item-requires g c =
    omega (
      arith,
      c.loop-x.invariant.moved,
      c.loop-x.invariant.size,
      joined_room (λ x. g.I.Item.form (g.I.Item.meant c.args.note.now x)) c.args.items.now c.loop-x.x-index c.x-item.result c.loop-x-test.true c.x-item.is,
    )

pub loop-x-preserved : goal.loop-x-preserved
loop-x-preserved g c =
    subst (Wrote c.args.w.now c.write_item.new.w)
    (sym (joined_next (λ x. g.I.Item.form (g.I.Item.meant c.args.note.now x)) c.args.items.now c.loop-x.x-index c.x-item.result c.loop-x-test.true c.x-item.is))
    (wrote_then (omega arith) c.loop-x.invariant c.write_item.ensures)
