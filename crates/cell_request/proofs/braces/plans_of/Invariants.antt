-- What holds at each turn of `plans_of`.
use Rattle.std.proofs.Common.{◌≡◌, map}
use Rattle.cell_request.proofs.braces.plans_of.Given as goal

abbrev pub invariant-loop-item : goal.invariant-loop-item
invariant-loop-item l = l.plans ≡ map (λ item. item.part.plan) l.yielded
