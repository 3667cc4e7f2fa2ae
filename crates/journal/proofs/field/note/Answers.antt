use Rattle.journal.specs.Notes.{Noted}
use Rattle.journal.proofs.Fields.{read}
use Rattle.journal.proofs.field.note.Goals as goal

pub returns : goal.returns
returns c = read Noted _ _ _ c.in_ok-word.word _ _ c.in_ok-word.ensures c.ok_or.ensures.value c.note.ensures
