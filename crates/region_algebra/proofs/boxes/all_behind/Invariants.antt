-- What holds at each turn of `all_behind`.
use Rattle.std.proofs.Common.{◌≡◌, map}
use Rattle.query_meaning.specs.RegionMeaning.{together}
use Rattle.region_algebra.proofs.boxes.all_behind.Given as goal

abbrev pub invariant-loop-first : goal.invariant-loop-first
invariant-loop-first l = l.boxes.items ≡ map (λ first. together first l.second) l.yielded
