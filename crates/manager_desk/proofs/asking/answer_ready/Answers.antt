-- A look at cells that have sources starts no load, and waits for none.
use Rattle.manager_desk.proofs.Joining.{served_or_not, source_or_none}
use Rattle.manager_desk.proofs.asking.answer_ready.Goals as goal

pub unreachable-requires : goal.unreachable-requires
unreachable-requires g c = source_or_none c.args.manager.now c.args.cells.now c.requires.ready (rw c.in-Ok-Load.field-0-is at c.in-Ok-Load.ensures.load)

pub unreachable-requires-in-Ok-Wait : goal.unreachable-requires-in-Ok-Wait
unreachable-requires-in-Ok-Wait g c = served_or_not c.args.manager.now c.args.cells.now _ c.requires.ready (rw c.in-Ok-Wait.field-0-is at c.in-Ok-Wait.ensures.wait)
