-- From the members by first appearance to the nodes of a row.
use Rattle.std.proofs.Common.{◌≡◌, refl, sym, ◌∙◌, ap, subst, inl, inr, ℕ, suc, ◌+◌, ◌<◌, ◌≤◌, List, [], length, take, map, flat_map, slice_index_or, bytes_eq, All, arith, true}
use Rattle.std.specs.List.{AllByRecursion as Each, list_any, enumerate_from, range_with_len}
use Rattle.std.proofs.lemmas.Bool.{cases_lt}
use Rattle.std.proofs.lemmas.List.{length-map, take_all}
use Rattle.std.proofs.lemmas.List.Elements.{All-from_recursion}
use Rattle.std.proofs.lemmas.List.Folds.{flat_map-map}
use Rattle.std.proofs.lemmas.List.FromFn.{get_or-map-range_with_len, length-map-range_with_len}
use Rattle.std.proofs.lemmas.Simd.{map-map}
use Rattle.member_trees.specs.declared.node.Node.{Node}
use Rattle.member_trees.specs.declared.rows.Placed.{Placed}
use Rattle.member_trees.specs.Nodes.{last_value, places_below, first_below, nodes_below}
use Rattle.member_trees.specs.Numbered.{fronts, number_in, members_below, children_of, placed_child, placed_children, listed_nodes}
use Rattle.olap_meaning.specs.Catalog.{below, at_depth}
use Rattle.olap_meaning.proofs.Lists.{appearances_le, map-flat_map, placed as position_within}
use Rattle.member_trees.specs.Trees.{AreWhole}
use Rattle.member_trees.proofs.Lists.{Each-all, Each-weaker, Each-map, Each-enumerate, map_same, flat_map_same, enumerate-map, flat_map-enumerate, length_joined}
use Rattle.member_trees.proofs.Fronts.{below_none, fronts_above}
use Rattle.member_trees.proofs.Order.{IsFront, order_known, order_few, order_end, children_below}

-- a path one level below a depth, under the parent at a place
abbrev pub placed_path : List (List ℕ) → ℕ → ℕ → List ℕ → Placed
placed_path leaves d place q = record {
  parent = place;
  number = number_in (fronts leaves (suc d)) q;
  value = last_value q;
}

-- the paths one level below a depth in hierarchical order, each under its parent
abbrev pub placed_at : List (List ℕ) → ℕ → List Placed
placed_at leaves d = flat_map (λ one. map (placed_path leaves d one.0) (below leaves one.1)) (enumerate_from 0 (at_depth leaves d))

-- the numbers of the paths of a depth in hierarchical order
abbrev pub order_at : List (List ℕ) → ℕ → List ℕ
order_at leaves d = map (number_in (fronts leaves d)) (at_depth leaves d)

-- the children of each path of a depth by first appearance, where these are the members below
abbrev pub lists_of : List (List ℕ) → List (ℕ × ℕ) → ℕ → List (List (ℕ × ℕ))
lists_of leaves members d = map (children_of members) (range_with_len 0 (length (fronts leaves d)))

-- the list of a path of a depth
list_at : (leaves : List (List ℕ)) (members : List (ℕ × ℕ)) (d : ℕ) (p : List ℕ) → IsFront leaves d p
    → slice_index_or (lists_of leaves members d) (number_in (fronts leaves d) p) [] ≡ children_of members (number_in (fronts leaves d) p)
list_at leaves members d p front =
    get_or-map-range_with_len (children_of members) 0 (length (fronts leaves d)) (number_in (fronts leaves d) p) (number_in (fronts leaves d) p) [] (position_within (bytes_eq p) (fronts leaves d) front.known) (omega arith)

-- what is placed
pub placed_is : (n d : ℕ) (leaves : List (List ℕ)) → AreWhole n leaves → suc d ≤ n
    → placed_children (lists_of leaves (members_below leaves d) d) (order_at leaves d) ≡ placed_at leaves d
placed_is n d leaves whole h =
    ap (flat_map place) (enumerate-map (number_in (fronts leaves d)) 0 (at_depth leaves d))
    ∙ flat_map-map place (λ e. (e.0, number_in (fronts leaves d) e.1)) (enumerate_from 0 (at_depth leaves d))
    ∙ flat_map_same (λ e. place (e.0, number_in (fronts leaves d) e.1)) (λ one. map (placed_path leaves d one.0) (below leaves one.1)) (enumerate_from 0 (at_depth leaves d))
    (Each-weaker (λ e. IsFront leaves d e.1) (λ e. Same e) same (enumerate_from 0 (at_depth leaves d)) (Each-enumerate (IsFront leaves d) 0 (at_depth leaves d) (order_known n d leaves whole (omega (arith, h)))))
  where
    place : ℕ × ℕ → List Placed
    place one = map (placed_child one.0) (slice_index_or (lists_of leaves (members_below leaves d) d) one.1 [])

    Same : ℕ × List ℕ → Type 0
    Same e = place (e.0, number_in (fronts leaves d) e.1) ≡ map (placed_path leaves d e.0) (below leaves e.1)

    same : (e : ℕ × List ℕ) → IsFront leaves d e.1 → Same e
    same e front =
        ap (map (placed_child e.0)) (list_at leaves (members_below leaves d) d e.1 front ∙ children_below n d leaves e.1 whole h front)
        ∙ map-map (placed_child e.0) (λ q. (number_in (fronts leaves (suc d)) q, last_value q)) (below leaves e.1)

-- the numbers of what is placed are the next order
pub placed_numbers : (d : ℕ) (leaves : List (List ℕ)) → map (λ (one : Placed). one.number) (placed_at leaves d) ≡ order_at leaves (suc d)
placed_numbers d leaves =
    map-flat_map number (λ one. map (placed_path leaves d one.0) (below leaves one.1)) (enumerate_from 0 (at_depth leaves d))
    ∙ flat_map_same (λ e. map number (map (placed_path leaves d e.0) (below leaves e.1))) (λ e. map (number_in next) (below leaves e.1)) (enumerate_from 0 (at_depth leaves d))
    (Each-all (λ e. map number (map (placed_path leaves d e.0) (below leaves e.1)) ≡ map (number_in next) (below leaves e.1)) (λ e. map-map number (placed_path leaves d e.0) (below leaves e.1)) (enumerate_from 0 (at_depth leaves d)))
    ∙ flat_map-enumerate (λ p. map (number_in next) (below leaves p)) 0 (at_depth leaves d)
    ∙ sym (map-flat_map (number_in next) (below leaves) (at_depth leaves d))
  where
    number : Placed → ℕ
    number one = one.number

    next : List (List ℕ)
    next = fronts leaves (suc d)

placed_places : (d : ℕ) (leaves : List (List ℕ)) → map (λ (one : Placed). (one.parent, one.value)) (placed_at leaves d) ≡ places_below leaves d
placed_places d leaves =
    map-flat_map place (λ one. map (placed_path leaves d one.0) (below leaves one.1)) (enumerate_from 0 (at_depth leaves d))
    ∙ flat_map_same (λ e. map place (map (placed_path leaves d e.0) (below leaves e.1))) (λ e. map (λ q. (e.0, last_value q)) (below leaves e.1)) (enumerate_from 0 (at_depth leaves d))
    (Each-all (λ e. map place (map (placed_path leaves d e.0) (below leaves e.1)) ≡ map (λ q. (e.0, last_value q)) (below leaves e.1)) (λ e. map-map place (placed_path leaves d e.0) (below leaves e.1)) (enumerate_from 0 (at_depth leaves d)))
  where
    place : Placed → ℕ × ℕ
    place one = (one.parent, one.value)

-- the members below a depth: none below the last
pub record AreNext (n d : ℕ) (leaves : List (List ℕ)) (members : List (ℕ × ℕ)) : Type 0 where
  pub inner : suc d ≤ n → members ≡ members_below leaves d
  pub last : n ≤ d → members ≡ []

-- the lists have as many children as there are paths below
list_sizes : (n d : ℕ) (leaves : List (List ℕ)) (members : List (ℕ × ℕ)) → AreWhole n leaves → d ≤ n → AreNext n d leaves members
    → Each (λ p. length (slice_index_or (lists_of leaves members d) (number_in (fronts leaves d) p) []) ≡ length (below leaves p)) (at_depth leaves d)
list_sizes n d leaves members whole h next =
    Each-weaker (IsFront leaves d) (λ p. length (slice_index_or (lists_of leaves members d) (number_in (fronts leaves d) p) []) ≡ length (below leaves p)) size (at_depth leaves d) (order_known n d leaves whole h)
  where
    size : (p : List ℕ) → IsFront leaves d p → length (slice_index_or (lists_of leaves members d) (number_in (fronts leaves d) p) []) ≡ length (below leaves p)
    size p front = ap length (list_at leaves members d p front) ∙ elim (cases_lt d n) [ inl lt ↦ within (omega (arith, lt)) | inr le ↦ end le ]
      where
        within : suc d ≤ n → length (children_of members (number_in (fronts leaves d) p)) ≡ length (below leaves p)
        within lt =
            ap (λ ms. length (children_of ms (number_in (fronts leaves d) p))) (next.inner lt)
            ∙ ap length (children_below n d leaves p whole lt front)
            ∙ length-map (below leaves p) (λ q. (number_in (fronts leaves (suc d)) q, last_value q))

        end : n ≤ d → length (children_of members (number_in (fronts leaves d) p)) ≡ length (below leaves p)
        end le =
            let same : d ≡ n = omega (arith, le, h) in
            ap (λ ms. length (children_of ms (number_in (fronts leaves d) p))) (next.last le) ∙ sym (ap length (below_none n leaves p whole (front.long ∙ same)))

-- how many children those placed before a place have
firsts : (n d : ℕ) (leaves : List (List ℕ)) (members : List (ℕ × ℕ)) → AreWhole n leaves → suc d ≤ n → AreNext n (suc d) leaves members → (i : ℕ)
    → length (flat_map (λ (one : Placed). slice_index_or (lists_of leaves members (suc d)) one.number []) (take i (placed_at leaves d))) ≡ first_below leaves (suc d) i
firsts n d leaves members whole h next i =
    length_joined (λ k. slice_index_or (lists_of leaves members (suc d)) k []) (below leaves) (λ (one : Placed). one.number) (number_in (fronts leaves (suc d))) (placed_at leaves d) (at_depth leaves (suc d)) (placed_numbers d leaves) (list_sizes n (suc d) leaves members whole h next) i

-- the nodes of a row
pub nodes_are : (n d : ℕ) (leaves : List (List ℕ)) (members : List (ℕ × ℕ)) → AreWhole n leaves → suc d ≤ n → AreNext n (suc d) leaves members
    → listed_nodes (lists_of leaves members (suc d)) (placed_at leaves d) ≡ nodes_below leaves d
nodes_are n d leaves members whole h next =
    map_same (λ one. node (one.0, (one.1.parent, one.1.value)) (length (flat_map (λ (p : Placed). slice_index_or (lists_of leaves members (suc d)) p.number []) (take one.0 (placed_at leaves d))))) (λ one. shown (one.0, (one.1.parent, one.1.value))) (enumerate_from 0 (placed_at leaves d))
    (Each-all (λ one. node (one.0, (one.1.parent, one.1.value)) (length (flat_map (λ (p : Placed). slice_index_or (lists_of leaves members (suc d)) p.number []) (take one.0 (placed_at leaves d)))) ≡ shown (one.0, (one.1.parent, one.1.value)))
    (λ one. ap (node (one.0, (one.1.parent, one.1.value))) (firsts n d leaves members whole h next one.0)) (enumerate_from 0 (placed_at leaves d)))
    ∙ sym (map-map shown (λ one. (one.0, (one.1.parent, one.1.value))) (enumerate_from 0 (placed_at leaves d)))
    ∙ ap (map shown) (sym (enumerate-map (λ (one : Placed). (one.parent, one.value)) 0 (placed_at leaves d)) ∙ ap (enumerate_from 0) (placed_places d leaves))
  where
    node : ℕ × (ℕ × ℕ) → ℕ → Node
    node one first = record {
      parent = one.1.0;
      value = one.1.1;
      first = first;
    }

    shown : ℕ × (ℕ × ℕ) → Node
    shown one = node one (first_below leaves (suc d) one.0)

-- how many children they have together
pub children_few : (n d limit : ℕ) (leaves : List (List ℕ)) (members : List (ℕ × ℕ)) → AreWhole n leaves → suc d ≤ n → AreNext n (suc d) leaves members → length leaves ≤ limit
    → length (flat_map (λ (one : Placed). slice_index_or (lists_of leaves members (suc d)) one.number []) (placed_at leaves d)) ≤ limit
children_few n d limit leaves members whole h next few =
    let all : length (flat_map (λ (one : Placed). slice_index_or (lists_of leaves members (suc d)) one.number []) (placed_at leaves d)) ≡ length (at_depth leaves (suc (suc d))) =
    ap (λ xs. length (flat_map (λ (one : Placed). slice_index_or (lists_of leaves members (suc d)) one.number []) xs)) (sym (take_all big (placed_at leaves d) (omega arith)))
    ∙ firsts n d leaves members whole h next big
    ∙ ap (λ xs. length (flat_map (below leaves) xs)) (take_all big (at_depth leaves (suc d)) (omega arith)) in
    elim (cases_lt (suc d) n) [
      | inl lt ↦ let l = order_few n (suc d) leaves whole (omega (arith, lt)) in omega (arith, all, l, few)
      | inr le ↦ let e : length (at_depth leaves (suc (suc d))) ≡ 0 = ap length (none (omega (arith, le, h))) in omega (arith, all, e)
    ]
  where
    big : ℕ
    big = length (placed_at leaves d) + length (at_depth leaves (suc d))

    none : n ≡ suc d → at_depth leaves (suc (suc d)) ≡ []
    none e = let P : ℕ → Type 0 = λ k. at_depth leaves (suc k) ≡ [] in subst P e (order_end n leaves whole)

-- each number of an order has a list
pub order_listed : (n d : ℕ) (leaves : List (List ℕ)) (members : List (ℕ × ℕ)) → AreWhole n leaves → d ≤ n → All (λ k. k < length (lists_of leaves members d)) (order_at leaves d)
order_listed n d leaves members whole h =
    All-from_recursion (λ k. k < length (lists_of leaves members d)) (order_at leaves d)
    (Each-map (λ k. k < length (lists_of leaves members d)) (number_in (fronts leaves d)) (at_depth leaves d)
    (Each-weaker (IsFront leaves d) (λ p. number_in (fronts leaves d) p < length (lists_of leaves members d)) within (at_depth leaves d) (order_known n d leaves whole h)))
  where
    within : (p : List ℕ) → IsFront leaves d p → number_in (fronts leaves d) p < length (lists_of leaves members d)
    within p front =
        let l = position_within (bytes_eq p) (fronts leaves d) front.known in
        let e : length (lists_of leaves members d) ≡ length (fronts leaves d) = length-map-range_with_len (children_of members) 0 (length (fronts leaves d)) in
        omega (arith, l, e)

-- each member's parent is among those of the depth above
pub parents_known : (leaves : List (List ℕ)) (d : ℕ) → All (λ member. member.0 < length (fronts leaves d)) (members_below leaves d)
parents_known leaves d =
    All-from_recursion (λ member. member.0 < length (fronts leaves d)) (members_below leaves d)
    (Each-map (λ member. member.0 < length (fronts leaves d)) (λ q. (number_in (fronts leaves d) (take d q), last_value q)) (fronts leaves (suc d))
    (Each-weaker (λ q. list_any (bytes_eq (take d q)) (fronts leaves d) ≡ true) (λ q. number_in (fronts leaves d) (take d q) < length (fronts leaves d)) (λ q e. position_within (bytes_eq (take d q)) (fronts leaves d) e) (fronts leaves (suc d)) (fronts_above leaves d)))

pub members_count : (leaves : List (List ℕ)) (d : ℕ) → length (members_below leaves d) ≡ length (fronts leaves (suc d))
members_count leaves d = length-map (fronts leaves (suc d)) (λ q. (number_in (fronts leaves d) (take d q), last_value q))

pub members_few : (leaves : List (List ℕ)) (d : ℕ) → length (members_below leaves d) ≤ length leaves
members_few leaves d =
    let a = members_count leaves d in
    let b = appearances_le (map (take (suc d)) leaves) in
    let c : length (map (take (suc d)) leaves) ≡ length leaves = length-map leaves (take (suc d)) in
    omega (arith, a, b, c)
