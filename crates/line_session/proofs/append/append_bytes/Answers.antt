-- What a file holds is appended or refused.
use Rattle.fact_rows.specs.BatchFiles.{batch_of}
use Rattle.line_session.proofs.Appending.{appends_rows}
use Rattle.line_session.proofs.Replying.{between}
use Rattle.line_session.proofs.append.append_bytes.Goals as goal

pub returns-in-Ok : goal.returns-in-Ok
returns-in-Ok g c asked =
    let answers = c.append_batch.ensures asked in
    (answers.0, appends_rows (between (g.P.Desk.seen c.args.desk.now) (g.P.Desk.seen c.append_batch.new.desk) asked) c.args.cube (batch_of c.args.catalog.now c.args.cube c.args.bytes.now) c.in-Ok.batch answers.0 c.append_batch.result c.in-Ok.ensures.ok answers.1)
