-- What holds at each turn of `all_dims`.
use Rattle.std.proofs.Common.{◌≡◌, take}
use Rattle.query_meaning.specs.RegionMeaning.{all_dims}
use Rattle.region_algebra.proofs.dims.all_dims.Given as goal

abbrev pub invariant-loop-part : goal.invariant-loop-part
invariant-loop-part l = l.dims ≡ all_dims (take l.part-index l.parts)
