-- What a clause sees of the regions of the code.
use Rattle.query_meaning.specs.declared.region_text.RegionShape.{RegionShape}
use Rattle.query_meaning.specs.declared.region_text.RegionShape.TheVariants.{Member, Range, Measures, Parts}
use Rattle.query_meaning.specs.RegionTree.{RegionTree}
use Rattle.query_meaning.specs.RegionTree as tree

-- the region of a shape
abbrev pub region_of : RegionShape → RegionTree
region_of (Member path) = tree.Member path
region_of (Range first last) = tree.Range first last
region_of Measures = tree.Measures
region_of (Parts joins parts) = tree.Parts joins parts
