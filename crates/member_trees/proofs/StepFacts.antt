-- One level more of the rows: what the calls for it need, from the members of the levels.
use Rattle.std.proofs.Common.{◌≡◌, sym, ◌∙◌, ap, subst, inl, inr, ℕ, suc, ◌+◌, ◌<◌, ◌≤◌, List, [], ◌∷◌, ◌++◌, length, map, flat_map, get_or, slice_index_or, All, arith}
use Rattle.std.specs.List.{range_with_len}
use Rattle.std.proofs.lemmas.Bool.{cases_lt}
use Rattle.std.proofs.lemmas.List.{length-map, get_or-map, get_or_past}
use Rattle.std.proofs.lemmas.List.FromFn.{get_or-map-range_with_len, map-range_with_len_more}
use Rattle.olap_meaning.specs.declared.schema.TheConstants.{RECORD_LIMIT}
use Rattle.member_trees.specs.declared.node.Node.{Node}
use Rattle.member_trees.specs.declared.rows.Placed.{Placed}
use Rattle.member_trees.specs.Nodes.{nodes_below}
use Rattle.member_trees.specs.Numbered.{AreNumbered, fronts, number_in, members_below, children_of, placed_children, listed_nodes}
use Rattle.olap_meaning.specs.Catalog.{at_depth}
use Rattle.member_trees.proofs.Order.{order_within}
use Rattle.member_trees.proofs.RowFacts.{AreNext, placed_at, order_at, lists_of, placed_is, placed_numbers, nodes_are, children_few, order_listed, parents_known, members_count, members_few}

module _ (leaves : List (List ℕ)) (levels : List (List (ℕ × ℕ))) (numbered : AreNumbered leaves levels) where
  -- the members of a level
  pub members_at : (d : ℕ) (e : List (ℕ × ℕ)) → d < length levels → get_or levels d e ≡ members_below leaves d
  members_at d e within =
      ap (λ ls. get_or ls d e) numbered.levels_are ∙ get_or-map-range_with_len (members_below leaves) 0 (length levels) d d e within (omega arith)

  pub next_at : (d : ℕ) → AreNext (length levels) d leaves (get_or levels d [])
  next_at d = record {
    inner = λ within. members_at d [] (omega (arith, within));
    last = λ past. get_or_past levels d [] past;
  }

  pub few_at : (d : ℕ) → length (get_or levels d []) ≤ RECORD_LIMIT
  few_at d = elim (cases_lt d (length levels)) [
    | inl lt ↦
        let e : length (get_or levels d []) ≡ length (members_below leaves d) = ap length (members_at d [] lt) in
        let few = members_few leaves d in
        let all = numbered.few_leaves in
        omega (arith, e, few, all)
    | inr le ↦ let e : length (get_or levels d []) ≡ 0 = ap length (get_or_past levels d [] le) in omega (arith, e)
  ]

  pub known_at : (d : ℕ) → All (λ member. member.0 < length (fronts leaves d)) (get_or levels d [])
  known_at d = elim (cases_lt d (length levels)) [
    | inl lt ↦ (let P : List (ℕ × ℕ) → Type 0 = All (λ member. member.0 < length (fronts leaves d)) in subst P (sym (members_at d [] lt)) (parents_known leaves d))
    | inr le ↦ λ k e h. absurd (let z : length (get_or levels d []) ≡ 0 = ap length (get_or_past levels d [] le) in omega (arith, z, h))
  ]

  -- the next depth's paths are as many as the members of a level
  pub count_at : (d : ℕ) (members : List (ℕ × ℕ)) → d < length levels → members ≡ get_or levels d members → length members ≡ length (fronts leaves (suc d))
  count_at d members within read = ap length (read ∙ members_at d members within) ∙ members_count leaves d

  pub known_next : (d : ℕ) (members : List (ℕ × ℕ)) → d < length levels → members ≡ get_or levels d members → All (λ member. member.0 < length members) (get_or levels (d + 1) [])
  known_next d members within read k e h =
      let step : suc d ≡ d + 1 = omega arith in
      let P : ℕ → Type 0 = λ i. All (λ member. member.0 < length (fronts leaves (suc d))) (get_or levels i []) in
      let all : P (d + 1) = subst P step (known_at (suc d)) in
      let count = count_at d members within read in
      let lt = all k e h in
      omega (arith, count, lt)

  pub order_few : (d : ℕ) (order : List ℕ) → d < length levels → order ≡ order_at leaves d → length order ≤ RECORD_LIMIT
  order_few d order within is =
      let l : length order ≡ length (at_depth leaves d) = ap length is ∙ length-map (at_depth leaves d) (number_in (fronts leaves d)) in
      let few = order_within (length levels) d RECORD_LIMIT leaves numbered.whole (omega (arith, within)) numbered.few_leaves (omega arith) in
      omega (arith, l, few)

  pub order_ready : (d : ℕ) (order : List ℕ) (lists : List (List (ℕ × ℕ))) → d < length levels → order ≡ order_at leaves d → lists ≡ lists_of leaves (get_or levels d []) d
      → All (λ number. number < length lists) order
  order_ready d order lists within is are k e h =
      let all = order_listed (length levels) d leaves (get_or levels d []) numbered.whole (omega (arith, within)) k e (let l : length order ≡ length (order_at leaves d) = ap length is in omega (arith, l, h)) in
      let same : get_or order k e ≡ get_or (order_at leaves d) k e = ap (λ ns. get_or ns k e) is in
      let long : length lists ≡ length (lists_of leaves (get_or levels d []) d) = ap length are in
      omega (arith, all, same, long)

  pub placed_now : (d : ℕ) (order : List ℕ) (lists : List (List (ℕ × ℕ))) (placed : List Placed) → d < length levels → order ≡ order_at leaves d → lists ≡ lists_of leaves (get_or levels d []) d
      → placed ≡ placed_children lists order → placed ≡ placed_at leaves d
  placed_now d order lists placed within is are made =
      made ∙ ap (λ ls. placed_children ls order) (are ∙ ap (λ ms. lists_of leaves ms d) (members_at d [] within)) ∙ ap (placed_children (lists_of leaves (members_below leaves d) d)) is
      ∙ placed_is (length levels) d leaves numbered.whole (omega (arith, within))

  -- the next lists, by how many members there are
  pub lists_next : (d : ℕ) (members : List (ℕ × ℕ)) (lists : List (List (ℕ × ℕ))) → d < length levels → members ≡ get_or levels d members
      → lists ≡ map (children_of (get_or levels (d + 1) [])) (range_with_len 0 (length members)) → lists ≡ lists_of leaves (get_or levels (suc d) []) (suc d)
  lists_next d members lists within read made =
      made ∙ ap (λ n. map (children_of (get_or levels (d + 1) [])) (range_with_len 0 n)) (count_at d members within read)
      ∙ ap (λ i. lists_of leaves (get_or levels i []) (suc d)) (let step : d + 1 ≡ suc d = omega arith in step)

  pub placed_ready : (d : ℕ) (placed : List Placed) (lists : List (List (ℕ × ℕ))) → d < length levels → placed ≡ placed_at leaves d → lists ≡ lists_of leaves (get_or levels (suc d) []) (suc d)
      → All (λ (one : Placed). one.number < length lists) placed
  placed_ready d placed lists within is are k e h =
      let numbers : map (λ (one : Placed). one.number) placed ≡ order_at leaves (suc d) = ap (map (λ (one : Placed). one.number)) is ∙ placed_numbers d leaves in
      let long : length placed ≡ length (order_at leaves (suc d)) = sym (length-map placed (λ (one : Placed). one.number)) ∙ ap length numbers in
      let all = order_listed (length levels) (suc d) leaves (get_or levels (suc d) []) numbered.whole (omega (arith, within)) k 0 (omega (arith, long, h)) in
      let same : get_or (order_at leaves (suc d)) k 0 ≡ (get_or placed k e).number = ap (λ ns. get_or ns k 0) (sym numbers) ∙ get_or-map (λ (one : Placed). one.number) placed k e 0 h in
      let size : length lists ≡ length (lists_of leaves (get_or levels (suc d) []) (suc d)) = ap length are in
      omega (arith, all, same, size)

  pub placed_few : (d : ℕ) (placed : List Placed) (lists : List (List (ℕ × ℕ))) → d < length levels → placed ≡ placed_at leaves d → lists ≡ lists_of leaves (get_or levels (suc d) []) (suc d)
      → length (flat_map (λ (one : Placed). slice_index_or lists one.number []) placed) ≤ RECORD_LIMIT
  placed_few d placed lists within is are =
      let few = children_few (length levels) d RECORD_LIMIT leaves (get_or levels (suc d) []) numbered.whole (omega (arith, within)) (next_at (suc d)) numbered.few_leaves in
      let same : length (flat_map (λ (one : Placed). slice_index_or lists one.number []) placed) ≡ length (flat_map (λ (one : Placed). slice_index_or (lists_of leaves (get_or levels (suc d) []) (suc d)) one.number []) (placed_at leaves d)) =
      ap (λ ls. length (flat_map (λ (one : Placed). slice_index_or ls one.number []) placed)) are
      ∙ ap (λ ps. length (flat_map (λ (one : Placed). slice_index_or (lists_of leaves (get_or levels (suc d) []) (suc d)) one.number []) ps)) is in
      omega (arith, few, same)

  pub row_now : (d : ℕ) (placed : List Placed) (lists : List (List (ℕ × ℕ))) (row : List Node) → d < length levels → placed ≡ placed_at leaves d → lists ≡ lists_of leaves (get_or levels (suc d) []) (suc d)
      → row ≡ listed_nodes lists placed → row ≡ nodes_below leaves d
  row_now d placed lists row within is are made =
      made ∙ ap (λ ls. listed_nodes ls placed) are ∙ ap (listed_nodes (lists_of leaves (get_or levels (suc d) []) (suc d))) is
      ∙ nodes_are (length levels) d leaves (get_or levels (suc d) []) numbered.whole (omega (arith, within)) (next_at (suc d))

  pub rows_next : (d : ℕ) (rows new : List (List Node)) (row : List Node) → rows ≡ map (nodes_below leaves) (range_with_len 0 d) → row ≡ nodes_below leaves d → new ≡ rows ++ row ∷ []
      → new ≡ map (nodes_below leaves) (range_with_len 0 (d + 1))
  rows_next d rows new row were is adds =
      adds ∙ ap (λ rs. rs ++ row ∷ []) were ∙ ap (λ r. map (nodes_below leaves) (range_with_len 0 d) ++ r ∷ []) is ∙ sym (map-range_with_len_more (nodes_below leaves) 0 d d (omega arith))

  pub order_next : (d : ℕ) (placed : List Placed) (order : List ℕ) → placed ≡ placed_at leaves d → order ≡ map (λ (one : Placed). one.number) placed → order ≡ order_at leaves (d + 1)
  order_next d placed order is made =
      made ∙ ap (map (λ (one : Placed). one.number)) is ∙ placed_numbers d leaves ∙ ap (order_at leaves) (let step : suc d ≡ d + 1 = omega arith in step)

  pub lists_step : (d : ℕ) (lists : List (List (ℕ × ℕ))) → lists ≡ lists_of leaves (get_or levels (suc d) []) (suc d) → lists ≡ lists_of leaves (get_or levels (d + 1) []) (d + 1)
  lists_step d lists are = are ∙ ap (λ i. lists_of leaves (get_or levels i []) i) (let step : suc d ≡ d + 1 = omega arith in step)
