-- Those so far.
use Rattle.std.proofs.Common.{◌≡◌, Some, map, take}
use Rattle.rollup_plan.specs.Picks.{bare, lent}
use Rattle.rollup_plan.specs.Plans.{kept_at}
use Rattle.rollup_plan.proofs.finding.kept_loads.Given as goal

abbrev pub invariant-loop-number : goal.invariant-loop-number
invariant-loop-number g l = map Some (lent l.kept.items) ≡ map (kept_at (bare (g.S.Shelf.loads l.shelf))) (take l.number-index l.numbers)
