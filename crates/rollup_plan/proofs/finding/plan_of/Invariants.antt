-- What is left has each load that may still be begun with, and all of its kind.
use Rattle.std.proofs.Common.{length}
use Rattle.olap_meaning.specs.Rolled.{value_count}
use Rattle.rollup_plan.specs.Picks.{IsLeft, lent}
use Rattle.rollup_plan.proofs.finding.plan_of.Given as goal

abbrev pub invariant-kinds : goal.invariant-kinds
invariant-kinds l = IsLeft (value_count l.catalog) l.cell (lent l.kept) (lent l.rest.items)

abbrev pub decreases-kinds : goal.decreases-kinds
decreases-kinds l = length l.rest.items
