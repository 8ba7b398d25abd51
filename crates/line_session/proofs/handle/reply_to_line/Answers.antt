-- A line is handled as its request says, and what is seen goes on.
use Rattle.std.proofs.Common.{sym, append-nil, arith, [], None}
use Rattle.input_lines.specs.Asked.{asked}
use Rattle.line_session.proofs.GoingOn.{request_goes_on}
use Rattle.line_session.proofs.Handling.{handles_none, handles_request}
use Rattle.line_session.proofs.LineEnds.{lacking}
use Rattle.line_session.proofs.Replying.{between, none_theirs}
use Rattle.line_session.proofs.handle.reply_to_line.Goals as goal

pub returns-in-Ok-clause-handled : goal.returns-in-Ok-clause-handled
returns-in-Ok-clause-handled g c =
    let answers = c.reply_to_request-reply.ensures.answered in
    (answers.0, answers.1, answers.2, answers.3, answers.4, answers.5, handles_request _ (between (g.P.Desk.seen c.args.desk.now) (g.P.Desk.seen c.reply_to_request-reply.new.desk) answers.1) c.args.line.now (asked c.in-Ok.request) answers.0 c.reply_to_request-reply.result answers.2 c.in-Ok.ensures.request c.in-Ok.ensures.one answers.6.0 answers.6.1)

pub returns-in-Ok-clause-grown : goal.returns-in-Ok-clause-grown
returns-in-Ok-clause-grown g c =
    let answers = c.reply_to_request-reply.ensures.answered in
    request_goes_on _ (between (g.P.Desk.seen c.args.desk.now) (g.P.Desk.seen c.reply_to_request-reply.new.desk) answers.1) (asked c.in-Ok.request) answers.0 c.reply_to_request-reply.result answers.6.0

pub returns-in-Err-clause-handled : goal.returns-in-Err-clause-handled
returns-in-Err-clause-handled g c =
    (None, [], 0, omega arith, sym (append-nil (g.D.Depot.answers c.args.depot.now)), none_theirs (g.D.Depot.files c.args.depot.now), handles_none _ (g.P.Desk.seen c.args.desk.now) c.args.line.now c.no_memory.result c.in-Err.ensures.err c.no_memory.ensures)

pub returns-in-Err-clause-ends : goal.returns-in-Err-clause-ends
returns-in-Err-clause-ends g c = sym (lacking c.args.line.now c.in-Err.ensures.err)
