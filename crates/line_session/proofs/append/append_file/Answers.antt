-- What came of a file is appended.
use Rattle.std.proofs.Common.{Ok, [], ◌∷◌}
use Rattle.line_session.proofs.Appending.{appends_file, one_theirs}
use Rattle.line_session.proofs.append.append_file.Goals as goal

pub returns-in-Ok-clause-reply : goal.returns-in-Ok-clause-reply
returns-in-Ok-clause-reply g c =
    let answers = appends_file (g.P.Desk.seen c.args.desk.now) (g.P.Desk.seen c.append_bytes.new.desk) c.args.catalog.now c.args.cube c.args.file.now c.in-Ok.bytes c.as_slice.result.now c.append_bytes.result c.requires.catalog c.as_slice.ensures c.append_bytes.ensures in
    (answers.0, (c.args.file.now, Ok c.in-Ok.bytes) ∷ [], c.in-Ok.ensures.answered, one_theirs (g.D.Depot.files c.args.depot.now) c.args.file.now c.in-Ok.bytes c.in-Ok.ensures.file, answers.1)
