-- A region at the end of a list of regions.
use Rattle.std.proofs.Common.{◌≡◌, ap, refl, List, [], ◌∷◌, ◌++◌}
use Rattle.query_meaning.specs.RegionTree.{RegionTree, more, pushed, trees_of}

pub push_is : (parts : List RegionTree) (part : RegionTree)
    → trees_of (parts ++ part ∷ []) ≡ pushed (trees_of parts) part
push_is [] part = refl
push_is (first ∷ parts) part = ap (more first) (push_is parts part)
