use Rattle.std.proofs.Common.{◌++◌, subst, arith}
use Rattle.std.specs.List.{flat_map}
use Rattle.bits.specs.Writer.{Wrote}
use Rattle.notes.specs.Windows.{window_form}
use Rattle.notes.specs.Blocks.{block_form}
use Rattle.notes.specs.Countries.{country_form}
use Rattle.notes.specs.Contexts.{context_of, counts_form}
use Rattle.notes.proofs.Writings.{wrote_then}
use Rattle.notes.specs.ContextsLemmas.{context_long}
use Rattle.notes.proofs.context.ContextWritable.write.Goals as goal

pub write_counts-requires : goal.write_counts-requires
write_counts-requires c = omega (arith, context_long (context_of c.args.self.now))

pub returns : goal.returns
returns c =
    subst (Wrote c.args.w.now c.write_list-3.new.w)
    (λ i. counts_form (context_of c.args.self.now) ++ (flat_map window_form (c.as_slice.ensures i) ++ (flat_map block_form (c.as_slice-2.ensures i) ++ flat_map country_form (c.as_slice-3.ensures i))))
    (wrote_then (omega (arith, context_long (context_of c.args.self.now))) c.write_counts.ensures
    (wrote_then c.write_counts.ensures.room c.write_list.ensures (wrote_then c.write_list.ensures.room c.write_list-2.ensures c.write_list-3.ensures)))
