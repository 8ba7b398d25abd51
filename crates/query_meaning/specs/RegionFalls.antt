-- A shape is larger than the regions in it.
use Rattle.std.specs.Prelude.{◌≤◌}
use Rattle.std.proofs.Common.{arith}
use Rattle.query_meaning.specs.declared.region_text.RegionShape.{RegionShape}
use Rattle.query_meaning.specs.declared.region_text.RegionShape.TheVariants.{Member, Range, Measures, Parts}
use Rattle.query_meaning.specs.declared.region_text.RegionTree.TheDeep.{deep-RegionShape}
use Rattle.query_meaning.specs.RegionTree.{region_size}
use Rattle.query_meaning.specs.RegionView.{region_of}

pub shape_falls : (shape : RegionShape) → deep-RegionShape shape ≤ region_size (region_of shape)
shape_falls (Member path) = omega arith
shape_falls (Range first last) = omega arith
shape_falls Measures = omega arith
shape_falls (Parts joins parts) = omega arith
