-- Members numbered by first appearance, and the steps from these to the rows of a tree.
use Rattle.std.specs.Prelude.{ℕ, zero, suc, ◌≡◌, ◌==◌, ◌≤◌, ◌&&◌, Bool, List, [], ◌∷◌, length, take, map, flat_map, filter, nat_eq, bytes_eq, slice_index_or}
use Rattle.std.specs.List.{enumerate_from, range_with_len, position_or_len}
use Rattle.olap_meaning.specs.Catalog.{first_appearances}
use Rattle.olap_meaning.specs.declared.schema.TheConstants.{LEVEL_LIMIT, RECORD_LIMIT}
use Rattle.member_trees.specs.declared.node.Node.{Node}
use Rattle.member_trees.specs.declared.rows.Placed.{Placed}
use Rattle.member_trees.specs.Nodes.{last_value}
use Rattle.member_trees.specs.Trees.{AreWhole}

-- whether two pairs are equal
abbrev pub pair_eq : ℕ × ℕ → ℕ × ℕ → Bool
pair_eq x y = nat_eq x.0 y.0 && nat_eq x.1 y.1

-- the paths of a depth by first appearance
abbrev pub fronts : List (List ℕ) → ℕ → List (List ℕ)
fronts leaves zero = [] ∷ []
fronts leaves (suc depth) = first_appearances (map (take (suc depth)) leaves)

-- the number of a path: its place among some paths
abbrev pub number_in : List (List ℕ) → List ℕ → ℕ
number_in paths path = position_or_len (bytes_eq path) paths

-- the members one level below a depth by first appearance: each by the number of the path above it, and its last value
abbrev pub members_below : List (List ℕ) → ℕ → List (ℕ × ℕ)
members_below leaves depth =
    map
    (λ path. (number_in (fronts leaves depth) (take depth path), last_value path))
    (fronts leaves (suc depth))

-- the members of each level, those of the first level first
pub record AreNumbered (leaves : List (List ℕ)) (levels : List (List (ℕ × ℕ))) : Type 0 where
  pub whole : AreWhole (length levels) leaves
  pub few_levels : length levels ≤ LEVEL_LIMIT
  pub few_leaves : length leaves ≤ RECORD_LIMIT
  pub levels_are : levels ≡ map (members_below leaves) (range_with_len 0 (length levels))

-- the members with a parent, in their order: each by its number and its value
abbrev pub children_of : List (ℕ × ℕ) → ℕ → List (ℕ × ℕ)
children_of members parent =
    map
    (λ one. (one.0, one.1.1))
    (filter (λ one. one.1.0 == parent) (enumerate_from 0 members))

-- a child of the parent at a place, by its number and its value
abbrev pub placed_child : ℕ → ℕ × ℕ → Placed
placed_child place child = record {
  parent = place;
  number = child.0;
  value = child.1;
}

-- the children of some parents in turn, of whom each is known by number
abbrev pub placed_children : List (List (ℕ × ℕ)) → List ℕ → List Placed
placed_children lists order =
    flat_map
    (λ one. map (placed_child one.0) (slice_index_or lists one.1 []))
    (enumerate_from 0 order)

-- the nodes of members: the children of each begin where those of the ones before it end
abbrev pub listed_nodes : List (List (ℕ × ℕ)) → List Placed → List Node
listed_nodes lists placed =
    map
    (λ one. record {
      parent = one.1.parent;
      value = one.1.value;
      first = length (flat_map (λ p. slice_index_or lists p.number []) (take one.0 placed));
    })
    (enumerate_from 0 placed)
