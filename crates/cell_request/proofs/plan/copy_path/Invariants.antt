-- What holds at each turn of `copy_path`.
use Rattle.std.proofs.Common.{◌≡◌, take}
use Rattle.cell_request.proofs.plan.copy_path.Given as goal

abbrev pub invariant-loop-value : goal.invariant-loop-value
invariant-loop-value l = l.copy ≡ take l.value-index l.path
