-- That `tree_of` ensures what it says, may call what it calls and keeps what holds at each turn.
use Rattle.std.proofs.Common.{◌≡◌, ◌∙◌, ◌++◌, ◌∷◌, [], ℕ, List, ap, sym, map, length, arith, filter_map}
use Rattle.std.specs.List.{list_all, range_with_len}
use Rattle.std.proofs.lemmas.List.FromFn.{length-map-range_with_len, map-range_with_len_more}
use Rattle.std.proofs.lemmas.List.Sums.{AllPass-from_list_all}
use Rattle.std.proofs.lemmas.Result.{IfOk-weaker}
use Rattle.olap_meaning.specs.Catalog.{leaf_value, path_of}
use Rattle.member_trees.specs.Trees.{TreeOf}
use Rattle.olap_catalog.specs.Members.{is_there}
use Rattle.olap_catalog.specs.Tables.{over}
use Rattle.olap_catalog.proofs.HierarchyFacts.{levels_hold}
use Rattle.olap_catalog.proofs.TreeFacts.{paths_by_number}
use Rattle.olap_catalog.proofs.trees.tree_of.Goals as goal

pub leaf_path-requires-clause-there : goal.leaf_path-requires-clause-there
leaf_path-requires-clause-there c k d within =
    let catalog = over c.args.schema.now c.args.tables.now c.args.columns.now in
    let count = c.leaf_count-leaf-end.ensures.count in
    let all = levels_hold catalog c.args.hierarchy.now c.requires.leveled c.loop-leaf.leaf (omega (arith, count, c.loop-leaf-test.true)) in
    AllPass-from_list_all (is_there catalog c.loop-leaf.leaf) c.as_slice-levels.result.now
    (ap (list_all (is_there catalog c.loop-leaf.leaf)) c.as_slice-levels.ensures ∙ all) k d within

pub push-requires-clause-room : goal.push-requires-clause-room
push-requires-clause-room c =
    let catalog = over c.args.schema.now c.args.tables.now c.args.columns.now in
    let long : length c.loop-leaf.builder.leaves ≡ c.loop-leaf.leaf =
    ap (λ (t : TreeOf). length t.leaves) c.loop-leaf.invariant ∙ length-map-range_with_len (path_of catalog c.args.hierarchy.now) 0 c.loop-leaf.leaf in
    omega (arith, long, c.leaf_count-leaf-end.ensures.limit, c.loop-leaf-test.true)

pub loop-leaf-preserved : goal.loop-leaf-preserved
loop-leaf-preserved c =
    let catalog = over c.args.schema.now c.args.tables.now c.args.columns.now in
    let hierarchy = c.args.hierarchy.now in
    let path : c.as_slice.result.now ≡ path_of catalog hierarchy c.loop-leaf.leaf =
    c.as_slice.ensures.value ∙ c.in_ok-path.ensures.values ∙ ap (filter_map (λ column. leaf_value catalog column c.loop-leaf.leaf)) c.as_slice-levels.ensures in
    let pushed : c.in_ok-builder-2.builder ≡ record { levels = c.loop-leaf.builder.levels; leaves = c.loop-leaf.builder.leaves ++ c.as_slice.result.now ∷ [] } = c.in_ok-builder-2.ensures in
    pushed
    ∙ ap (λ (t : TreeOf). record { levels = t.levels; leaves = t.leaves ++ c.as_slice.result.now ∷ [] }) c.loop-leaf.invariant
    ∙ ap (λ (p : List ℕ). record { levels = length hierarchy.levels; leaves = map (path_of catalog hierarchy) (range_with_len 0 c.loop-leaf.leaf) ++ p ∷ [] }) path
    ∙ ap (λ (ps : List (List ℕ)). record { levels = length hierarchy.levels; leaves = ps }) (sym (map-range_with_len_more (path_of catalog hierarchy) 0 c.loop-leaf.leaf c.loop-leaf.leaf (omega arith)))

pub returns : goal.returns
returns c =
    let catalog = over c.args.schema.now c.args.tables.now c.args.columns.now in
    let hierarchy = c.args.hierarchy.now in
    let count = c.leaf_count-leaf-end.ensures.count in
    let leaves = paths_by_number catalog hierarchy c.loop-leaf.leaf (omega (arith, count, c.loop-leaf-test.false, c.loop-leaf.auto.leaf-end)) in
    IfOk-weaker c.finish.result _ _ (λ tree h. h ∙ c.loop-leaf.invariant ∙ ap (λ (ps : List (List ℕ)). record { levels = length hierarchy.levels; leaves = ps }) leaves) c.finish.ensures
