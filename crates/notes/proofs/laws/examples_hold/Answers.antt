use Rattle.std.proofs.Common.{refl}
use Rattle.bits.specs.Digits.{digits, bits}
use Rattle.bits.specs.Codec.{text}
use Rattle.texts.specs.Pieces.{pieces}
use Rattle.texts.specs.Texts.{segment, path}
use Rattle.notes.specs.Rules.{note_reads}
use Rattle.notes.proofs.laws.examples_hold.Goals as goal

pub returns : goal.returns
unfolding note_reads bits digits text pieces segment path
returns c = record { three_bytes = refl; sixty_two_bytes = refl; cut = refl; excess = refl; no_originator = refl }
