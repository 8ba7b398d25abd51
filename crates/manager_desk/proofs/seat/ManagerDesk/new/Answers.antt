-- A desk begins idle, with no call and no row.
use Rattle.manager_desk.proofs.Calling.{unused_next}
use Rattle.manager_desk.proofs.Counting.{unused_count}
use Rattle.manager_desk.proofs.seat.ManagerDesk.new.Goals as goal

pub invariant_of-result : goal.invariant_of-result
invariant_of-result c = record {
  idle = c.requires.idle;
  next = unused_next c.args.manager.entries 1 c.requires.unused;
  count = unused_count c.args.manager.setting.catalog c.args.manager.entries c.requires.unused;
}
