-- What is kept is told by its text.
use Rattle.std.proofs.Common.{refl, Some, None, inr}
use Rattle.line_session.proofs.Flushing.{kept_is_told, lacks_memory}
use Rattle.line_session.proofs.show.reply_to_show.Goals as goal

pub returns-in-Ok : goal.returns-in-Ok
returns-in-Ok g c =
    (Some c.in-Ok.view.position, kept_is_told (g.P.Desk.seen c.args.desk.now) (g.P.Desk.seen c.show.new.self) c.args.catalog.now c.in-Ok.view c.cache_text.result c.made.result c.requires c.in-Ok.ensures.shown c.cache_text.ensures c.made.ensures)

pub returns-in-Err : goal.returns-in-Err
returns-in-Err g c = (None, (refl, inr (lacks_memory (g.P.Desk.seen c.args.desk.now) (g.P.Desk.seen c.show.new.self) c.no_memory.result c.in-Err.ensures.refused c.no_memory.ensures)))
