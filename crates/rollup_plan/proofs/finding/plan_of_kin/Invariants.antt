-- There is none along the columns so far.
use Rattle.std.proofs.Common.{◌≡◌, false, take}
use Rattle.std.specs.List.{list_any}
use Rattle.olap_meaning.specs.Rolled.{value_count}
use Rattle.rollup_plan.specs.Picks.{lent, splits_along}
use Rattle.rollup_plan.proofs.finding.plan_of_kin.Given as goal

abbrev pub invariant-loop-own : goal.invariant-loop-own
invariant-loop-own l = list_any (λ own. splits_along (value_count l.catalog) l.cell (lent l.kin) own.0) (take l.own-index l.first.body.header.columns) ≡ false
