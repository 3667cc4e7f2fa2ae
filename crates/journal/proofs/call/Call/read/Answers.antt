use Rattle.std.proofs.Common.{length, sym, ◌∙◌, subst}
use Rattle.journal.specs.Words.{Within}
use Rattle.journal.proofs.Pieces.{pieces_within}
use Rattle.journal.proofs.call.Call.read.Goals as goal

pub arguments-requires : goal.arguments-requires
arguments-requires c =
    let taken = c.in_ok-name.ensures in
    (subst (Within (length c.args.space.now)) (sym c.new-words.ensures ∙ taken.1) (pieces_within 32 c.args.line.now (length c.args.space.now) c.requires)).1
