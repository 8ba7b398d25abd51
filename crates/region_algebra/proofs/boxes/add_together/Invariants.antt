-- What holds at each turn of `add_together`.
use Rattle.std.proofs.Common.{◌≡◌, ◌++◌, map, take}
use Rattle.query_meaning.specs.RegionMeaning.{together}
use Rattle.region_algebra.proofs.boxes.add_together.Given as goal

abbrev pub invariant-loop-second : goal.invariant-loop-second
invariant-loop-second l = l.boxes ≡ l.initial.boxes ++ map (together l.first) (take l.second-index l.seconds)
