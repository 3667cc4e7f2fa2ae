use Rattle.std.proofs.lemmas.Result.{err_from_is_err_and}
use Rattle.journal.proofs.call.arguments.Goals as goal

pub returns-in_err-note-in-Read : goal.returns-in_err-note-in-Read
returns-in_err-note-in-Read c =
    let p = err_from_is_err_and c.from_residual-in_err-note-in-Read.result c.from_residual-in_err-note-in-Read.ensures.1 in
    let told = c.in_err-note-in-Read.ensures in
    rw (c.in-Read.is, p.1, p.2) (λ call m. told.0 m.0 m.1 m.2 m.3, told.1)

pub returns-in_err-note-in-Write : goal.returns-in_err-note-in-Write
returns-in_err-note-in-Write c =
    let p = err_from_is_err_and c.from_residual-in_err-note-in-Write.result c.from_residual-in_err-note-in-Write.ensures.1 in
    let told = c.in_err-note-in-Write.ensures in
    rw (c.in-Write.is, p.1, p.2) (λ call m. told.0 m.0 m.1 m.2 m.3, told.1)
