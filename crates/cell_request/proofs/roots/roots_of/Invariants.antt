-- What holds at each turn of `roots_of`.
use Rattle.std.proofs.Common.{◌≡◌, map, take}
use Rattle.query_meaning.specs.Resolution.{root_of}
use Rattle.cell_request.proofs.roots.roots_of.Given as goal

abbrev pub invariant-loop-member : goal.invariant-loop-member
invariant-loop-member l = l.roots ≡ map root_of (take l.member-index l.members)
