use Rattle.std.proofs.Common.{take}
use Rattle.std.specs.List.{flat_map}
use Rattle.bits.specs.Writer.{Wrote}
use Rattle.notes.proofs.lists.write_list.Given as goal

abbrev pub invariant-loop-x : goal.invariant-loop-x
invariant-loop-x g l = Wrote l.initial.w l.w (flat_map (λ x. g.I.Item.form (g.I.Item.meant l.note x)) (take l.x-index l.items))
