-- Regions, as they are written.
use Rattle.std.specs.Prelude.{ℕ, suc, ◌+◌, List, [], ◌∷◌}
use Rattle.query_meaning.specs.declared.region_text.Joins.{Joins}

mutual
  pub data RegionTree : Type 0 where
    Member : (path : List (List ℕ)) → RegionTree
    Range : (first last : List (List ℕ)) → RegionTree
    Measures : RegionTree
    Parts : (joins : Joins) (parts : RegionTrees) → RegionTree

  pub data RegionTrees : Type 0 where
    none : RegionTrees
    more : (part : RegionTree) (others : RegionTrees) → RegionTrees

-- regions in a list
abbrev pub trees_of : List RegionTree → RegionTrees
trees_of [] = none
trees_of (part ∷ parts) = more part (trees_of parts)

-- some regions, and then others
abbrev pub before : RegionTrees → RegionTrees → RegionTrees
before none others = others
before (more part parts) others = more part (before parts others)

-- one more at the end
abbrev pub pushed : RegionTrees → RegionTree → RegionTrees
pushed parts part = before parts (more part none)

-- how many joins, and how many parts of joins, a region has: what a walk through it ends by
abbrev mutual
  pub region_size : RegionTree → ℕ
  region_size (Member path) = 0
  region_size (Range first last) = 0
  region_size Measures = 0
  region_size (Parts joins parts) = suc (trees_size parts)

  pub trees_size : RegionTrees → ℕ
  trees_size none = 0
  trees_size (more part parts) = suc (region_size part + trees_size parts)
