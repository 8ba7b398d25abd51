-- What holds at each turn of `paired`.
use Rattle.std.proofs.Common.{◌≡◌, take}
use Rattle.query_meaning.specs.Resolution.{pairs}
use Rattle.cell_request.proofs.plan.paired.Given as goal

abbrev pub invariant-loop-first : goal.invariant-loop-first
invariant-loop-first l = l.tuples ≡ pairs (take l.first-index l.firsts) l.seconds
