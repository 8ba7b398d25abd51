-- What holds at each turn of `copy_regions`.
use Rattle.std.proofs.Common.{◌≡◌, take}
use Rattle.region_algebra.proofs.copies.copy_regions.Given as goal

abbrev pub invariant-loop-region : goal.invariant-loop-region
invariant-loop-region l = l.copies ≡ take l.region-index l.regions
