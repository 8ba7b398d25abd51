-- What holds at each turn of `joined`.
use Rattle.std.proofs.Common.{◌≡◌, flat_map, take}
use Rattle.query_meaning.specs.OwnAxes.{AreTuplesOf}
use Rattle.cell_request.specs.Plans.{listed}
use Rattle.cell_request.proofs.plan.+listing.Given as goal

abbrev pub invariant-joined-loop-plan : goal.invariant-joined-loop-plan
invariant-joined-loop-plan l = (l.tuples ≡ flat_map (listed l.catalog l.cube) (take l.plan-index l.plans)) × AreTuplesOf l.catalog l.cube l.tuples
