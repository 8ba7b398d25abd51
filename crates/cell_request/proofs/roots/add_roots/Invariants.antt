-- What holds at each turn of `add_roots`.
use Rattle.std.proofs.Common.{◌≡◌, ◌++◌, take}
use Rattle.cell_request.proofs.roots.add_roots.Given as goal

abbrev pub invariant-loop-root : goal.invariant-loop-root
invariant-loop-root l = l.roots ≡ l.initial.roots ++ take l.root-index l.others
