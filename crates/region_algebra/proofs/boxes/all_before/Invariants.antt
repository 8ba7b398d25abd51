-- What holds at each turn of `all_before`.
use Rattle.std.proofs.Common.{◌≡◌, map}
use Rattle.query_meaning.specs.RegionMeaning.{together}
use Rattle.region_algebra.proofs.boxes.all_before.Given as goal

abbrev pub invariant-loop-second : goal.invariant-loop-second
invariant-loop-second l = l.boxes.items ≡ map (together l.first) l.yielded
