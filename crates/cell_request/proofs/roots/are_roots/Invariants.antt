-- What holds at each turn of `are_roots`.
use Rattle.std.proofs.Common.{◌≡◌, drop}
use Rattle.query_meaning.specs.Resolution.{are_roots}
use Rattle.cell_request.proofs.roots.are_roots.Given as goal

abbrev pub invariant-loop-i : goal.invariant-loop-i
invariant-loop-i l = are_roots l.roots l.others ≡ are_roots (drop l.i l.roots) (drop l.i l.others)
