-- The parts so far.
use Rattle.std.proofs.Common.{length, take}
use Rattle.rollup_plan.specs.Picks.{ArePickedOf, lent}
use Rattle.rollup_plan.proofs.parts.add_loads.Given as goal

abbrev pub invariant-loop-next : goal.invariant-loop-next
invariant-loop-next l = ArePickedOf (length l.initial.marks) l.cell l.split (lent l.kept) (take l.next (lent l.kept)) l.parts l.marks
