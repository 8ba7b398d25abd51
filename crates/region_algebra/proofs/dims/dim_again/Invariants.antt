-- What holds at each turn of `dim_again`.
use Rattle.std.proofs.Common.{◌≡◌, [], drop, reverse, take}
use Rattle.query_meaning.specs.RegionMeaning.{dim_again}
use Rattle.region_algebra.proofs.dims.dim_again.Given as goal

abbrev pub invariant-loop-i : goal.invariant-loop-i
invariant-loop-i l = dim_again [] l.dims ≡ dim_again (reverse (take l.i l.dims)) (drop l.i l.dims)
