-- What holds at each turn of `add_tuples`.
use Rattle.std.proofs.Common.{◌≡◌, ◌++◌}
use Rattle.cell_request.proofs.plan.add_tuples.Given as goal

abbrev pub invariant-loop-tuple : goal.invariant-loop-tuple
invariant-loop-tuple l = l.tuples ≡ l.initial.tuples ++ l.yielded
