-- What `region_of` and `regions_of` end by, and what holds at each turn of `regions_of`.
use Rattle.std.proofs.Common.{◌≡◌, Ok, All, take}
use Rattle.query_meaning.specs.RegionMeaning.{parts_meant}
use Rattle.query_meaning.specs.RegionTree.{region_size, trees_of, trees_size}
use Rattle.region_algebra.specs.Regions.{IsBoundedOf}
use Rattle.region_algebra.proofs.flushes.+regions.Given as goal

abbrev pub decreases-region_of : goal.decreases-region_of
decreases-region_of l = region_size l.text.now

abbrev pub decreases-regions_of : goal.decreases-regions_of
decreases-regions_of l = trees_size (trees_of l.trees.now)

abbrev pub invariant-regions_of-loop-one : goal.invariant-regions_of-loop-one
invariant-regions_of-loop-one l = (parts_meant l.catalog l.cube (trees_of (take l.one-index l.trees)) ≡ Ok l.regions) × All (IsBoundedOf l.catalog l.cube) l.regions
