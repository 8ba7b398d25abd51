-- What holds at each turn of `add_pairs`.
use Rattle.std.proofs.Common.{◌≡◌, ◌++◌, map, take}
use Rattle.cell_request.proofs.plan.add_pairs.Given as goal

abbrev pub invariant-loop-second : goal.invariant-loop-second
invariant-loop-second l = l.tuples ≡ l.initial.tuples ++ map (λ second. l.first ++ second) (take l.second-index l.seconds)
