-- How the members of a hierarchy are kept.
use Rattle.std.specs.Prelude.{ℕ, suc, ◌≡◌, ◌≤◌, ◌-◌, List, length, take, map, flat_map, slice_index}
use Rattle.std.specs.List.{enumerate_from, range_with_len}
use Rattle.olap_meaning.specs.declared.schema.TheConstants.{LEVEL_LIMIT, RECORD_LIMIT}
use Rattle.member_trees.specs.declared.node.Node.{Node}
use Rattle.olap_meaning.specs.Catalog.{at_depth, below}
use Rattle.member_trees.specs.Trees.{AreWhole}

-- the last value of a path
abbrev pub last_value : List ℕ → ℕ
last_value path = slice_index path (length path - 1)

-- the paths one level below those of a depth, in hierarchical order: each by the place of the path above it, and its
-- last value
abbrev pub places_below : List (List ℕ) → ℕ → List (ℕ × ℕ)
places_below leaves depth =
    flat_map
    (λ parent. map (λ path. (parent.0, last_value path)) (below leaves parent.1))
    (enumerate_from 0 (at_depth leaves depth))

-- the place at which the children of the path at a place of a depth begin, among the paths one level below that depth
abbrev pub first_below : List (List ℕ) → ℕ → ℕ → ℕ
first_below leaves depth place =
    length (flat_map (below leaves) (take place (at_depth leaves depth)))

-- the nodes one level below a depth
abbrev pub nodes_below : List (List ℕ) → ℕ → List Node
nodes_below leaves depth =
    map
    (λ one. record {
      parent = one.1.0;
      value = one.1.1;
      first = first_below leaves (suc depth) one.0;
    })
    (enumerate_from 0 (places_below leaves depth))

-- a row of nodes for each level, those of the first level first
pub record AreKept (levels : ℕ) (leaves : List (List ℕ)) (rows : List (List Node)) : Type 0 where
  pub whole : AreWhole levels leaves
  pub few_levels : levels ≤ LEVEL_LIMIT
  pub few_leaves : length leaves ≤ RECORD_LIMIT
  pub rows_are : rows ≡ map (nodes_below leaves) (range_with_len 0 levels)
