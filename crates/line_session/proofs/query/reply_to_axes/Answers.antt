-- Where there is no memory for the cells of a query, nothing is asked of the desk.
use Rattle.std.proofs.Common.{None, Ok, arith}
use Rattle.line_session.proofs.Replying.{costs_nothing, lacks}
use Rattle.line_session.proofs.query.reply_to_axes.Goals as goal

pub returns-in-Err : goal.returns-in-Err
returns-in-Err g c = record { reply = (None, 0, omega arith, costs_nothing (g.P.Desk.seen c.args.desk.now), lacks _ (g.P.Desk.seen c.args.desk.now) (Ok c.args.axes.now) c.no_memory.result c.no_memory.ensures) }
