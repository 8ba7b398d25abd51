-- At first nothing is picked.
use Rattle.std.proofs.Common.{length, refl}
use Rattle.rollup_plan.specs.Picks.{lent}
use Rattle.rollup_plan.proofs.PickFacts.{none_picked}
use Rattle.rollup_plan.proofs.parts.add_loads.Goals as goal

pub loop-next-init : goal.loop-next-init
loop-next-init c = rw c.new-parts.ensures (none_picked (length c.args.marks.now) c.args.cell.now c.args.split (lent c.args.kept.now) c.args.marks.now refl c.requires.unset)
