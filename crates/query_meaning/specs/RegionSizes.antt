-- Some regions are larger than each of them: what a walk through a region ends by.
use Rattle.std.specs.Prelude.{◌+◌, ◌≤◌, List, [], ◌∷◌}
use Rattle.std.proofs.Common.{arith}
use denote.Param.Weighed.{most}
use Rattle.query_meaning.specs.RegionTree.{RegionTree, region_size, trees_size, trees_of}

-- no region of a list is as large as the list
pub most_trees : (parts : List RegionTree)
    → most (λ s. region_size s + 1) parts ≤ trees_size (trees_of parts)
most_trees [] = omega arith
most_trees (part ∷ parts) = omega (arith, most_trees parts)
