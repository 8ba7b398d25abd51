-- A region that is flushed is replied to with the position of the entry.
use Rattle.std.proofs.Common.{refl, Some, None, inl, inr}
use Rattle.line_session.proofs.Flushing.{lacks_memory}
use Rattle.line_session.proofs.flush.reply_to_region.Goals as goal

pub returns-in-Ok : goal.returns-in-Ok
returns-in-Ok g c cube = (Some c.in-Ok.position, inl (record { entry = c.in-Ok.position; flushes = c.in-Ok.ensures.flushed; unasked = refl; position_is = refl; text = c.numbers.ensures }))

pub returns-in-Err : goal.returns-in-Err
returns-in-Err g c cube = (None, inr (lacks_memory (g.P.Desk.seen c.args.desk.now) (g.P.Desk.seen c.flush.new.self) c.no_memory.result c.in-Err.ensures.refused c.no_memory.ensures, refl))
