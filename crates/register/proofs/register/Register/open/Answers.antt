use Rattle.std.proofs.Common.{◌-◌, ◌++◌, drop, length, vec_items, vec_len, sym, refl, subst, arith}
use Rattle.std.specs.Vec.{with_items}
use Rattle.texts.specs.TextValues.{text_of}
use Rattle.register.specs.Entries.{freed}
use Rattle.register.specs.Tables.{Tables, Cleared, Opened}
use Rattle.register.specs.Targets.{unlinked}
use Rattle.register.proofs.Opening.{cleared_part, cleared_opened}
use Rattle.register.proofs.register.Register.open.Goals as goal

pub returns : goal.returns
returns c =
    let rows = c.args.rows in
    let targets = c.args.targets in
    let home = text_of c.args.home in
    let r : Tables = record {
      home = home;
      rows = vec_items (with_items rows (c.free_rows.new.rows ++ drop (c.min-n.result - 0) c.deref_mut-2.result.now));
      targets = vec_items (with_items targets (c.clear_targets.new.targets ++ drop (c.min-m.result - 0) c.deref_mut.result.now));
    } in
    let cleared : Cleared (vec_items rows) (vec_items targets) r = record {
      rows_free = cleared_part freed 256 _ rows _ _ (sym rows.ok.0) (omega (arith, c.min-n.ensures, c.len-2.ensures)) c.deref_mut-2.ensures.value c.free_rows.ensures;
      targets_free = cleared_part (λ _. unlinked) 4096 _ targets _ _ (sym targets.ok.0) (omega (arith, c.min-m.ensures, c.len.ensures)) c.deref_mut.ensures.value c.clear_targets.ensures;
    } in
    record {
      cleared = cleared;
      opened =
          subst (λ k. Opened (record { home = home; rows = k; targets = vec_len targets }) r) (sym rows.ok.0)
          (subst (λ k. Opened (record { home = home; rows = length (vec_items rows); targets = k }) r) (sym targets.ok.0)
          (cleared_opened home (vec_items rows) (vec_items targets) r refl cleared));
    }
