-- Entries of the target table. Assumes nothing.
use Rattle.std.specs.Prelude.{false, replicate}
use Rattle.register.specs.declared.target_row.TargetRow.{TargetRow}

-- a target without a link
abbrev pub unlinked : TargetRow
unlinked = record { linked = replicate 64 false }
