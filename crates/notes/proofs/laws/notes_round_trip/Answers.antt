use Rattle.notes.proofs.Notes.{written_back, read_back, note_decides}
use Rattle.notes.proofs.laws.notes_round_trip.Goals as goal

pub returns : goal.returns
returns c = record { written = written_back; read = read_back; decides = note_decides }
