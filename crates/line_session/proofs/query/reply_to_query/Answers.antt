-- A query that means no axes is replied to with its first refusal.
use Rattle.std.proofs.Common.{None, arith}
use Rattle.query_meaning.specs.Resolution.{axes_meant}
use Rattle.line_session.proofs.Replying.{costs_nothing, no_axes}
use Rattle.line_session.proofs.query.reply_to_query.Goals as goal

pub returns-in-Err : goal.returns-in-Err
returns-in-Err g c = record { reply = (None, 0, omega arith, costs_nothing (g.P.Desk.seen c.args.desk.now), no_axes _ (g.P.Desk.seen c.args.desk.now) (axes_meant c.args.catalog.now c.args.query.now) c.in-Err.fault c.reply_to_fault.result c.in-Err.ensures.fault c.reply_to_fault.ensures) }
