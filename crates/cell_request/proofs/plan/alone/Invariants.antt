-- What holds at each turn of `alone`.
use Rattle.std.proofs.Common.{◌≡◌}
use Rattle.cell_request.specs.Plans.{alone}
use Rattle.cell_request.proofs.plan.alone.Given as goal

abbrev pub invariant-loop-member : goal.invariant-loop-member
invariant-loop-member l = l.tuples ≡ alone l.yielded
