-- The loads so far have no more values than those that are not left.
use Rattle.std.proofs.Common.{◌<◌, ◌≤◌, ◌-◌, take}
use Rattle.rollup_plan.specs.Picks.{AreCounted, lent}
use Rattle.rollup_plan.proofs.parts.are_enough.Given as goal

abbrev pub invariant-loop-one : goal.invariant-loop-one
invariant-loop-one l = record {
  some : 0 < l.left;
  most : l.left ≤ l.size;
  counted : AreCounted l.cell l.split (take l.one-index (lent l.kept)) (l.size - l.left);
}
