-- That the rows are those of the tree.
use Rattle.std.proofs.Common.{◌≡◌, ◌∙◌, ◌+◌, suc, List, [], ℕ, get_or, sym, subst}
use Rattle.member_trees.specs.Nodes.{nodes_below}
use Rattle.member_trees.proofs.RowFacts.{placed_at, lists_of}
use Rattle.member_trees.proofs.StepFacts.{few_at, known_at, known_next, order_few, order_ready, placed_now, lists_next, placed_ready, placed_few, row_now, rows_next, order_next, lists_step}
use Rattle.member_trees.proofs.rows.rows.Goals as goal

pub children_at-requires-clause-few : goal.children_at-requires-clause-few
children_at-requires-clause-few c = few_at c.args.leaves.now.items c.args.levels.now c.requires 0

pub children_at-requires-clause-known : goal.children_at-requires-clause-known
children_at-requires-clause-known c =
    known_at c.args.leaves.now.items c.args.levels.now c.requires 0

pub place_all-requires-clause-few : goal.place_all-requires-clause-few
place_all-requires-clause-few c =
    order_few c.args.leaves.now.items c.args.levels.now c.requires c.loop-depth.depth c.as_slice.result.now c.loop-depth-test.true (c.as_slice.ensures.value ∙ c.loop-depth.invariant.order_is)

pub place_all-requires-clause-known : goal.place_all-requires-clause-known
place_all-requires-clause-known c =
    order_ready c.args.leaves.now.items c.args.levels.now c.requires c.loop-depth.depth c.as_slice.result.now c.as_slice-in-loop-depth.result.now c.loop-depth-test.true
    (c.as_slice.ensures.value ∙ c.loop-depth.invariant.order_is) (c.as_slice-in-loop-depth.ensures.value ∙ c.loop-depth.invariant.lists_are)

pub children_at-requires-in-loop-depth-clause-few :
    goal.children_at-requires-in-loop-depth-clause-few
children_at-requires-in-loop-depth-clause-few c =
    few_at c.args.leaves.now.items c.args.levels.now c.requires (c.loop-depth.depth + 1)

pub children_at-requires-in-loop-depth-clause-known :
    goal.children_at-requires-in-loop-depth-clause-known
children_at-requires-in-loop-depth-clause-known c =
    let levels = c.args.levels.now in
    let members = c.members.result.now in
    let IsRead : List (ℕ × ℕ) → Type 0 = λ ms. ms ≡ get_or levels c.loop-depth.depth ms in
    let read : IsRead members = subst IsRead (sym c.members.ensures) c.index-levels-depth.is in
    known_next c.args.leaves.now.items levels c.requires c.loop-depth.depth members c.loop-depth-test.true read

pub row-requires-clause-known : goal.row-requires-clause-known
row-requires-clause-known c =
    let levels = c.args.levels.now in
    let members = c.members.result.now in
    let IsRead : List (ℕ × ℕ) → Type 0 = λ ms. ms ≡ get_or levels c.loop-depth.depth ms in
    let read : IsRead members = subst IsRead (sym c.members.ensures) c.index-levels-depth.is in
    let leaves = c.args.leaves.now.items in
    let depth = c.loop-depth.depth in
    let within = c.loop-depth-test.true in
    let placed : c.in_ok-placed.placed.items ≡ placed_at leaves depth =
    placed_now leaves levels c.requires depth c.as_slice.result.now c.as_slice-in-loop-depth.result.now c.in_ok-placed.placed.items within
    (c.as_slice.ensures.value ∙ c.loop-depth.invariant.order_is) (c.as_slice-in-loop-depth.ensures.value ∙ c.loop-depth.invariant.lists_are) c.in_ok-placed.ensures in
    let lists : c.in_ok-lists-2.lists.items ≡ lists_of leaves (get_or levels (suc depth) []) (suc depth) =
    lists_next leaves levels c.requires depth members c.in_ok-lists-2.lists.items within read c.in_ok-lists-2.ensures in
    placed_ready leaves levels c.requires depth c.as_slice-in-loop-depth-2.result.now c.as_slice-in-loop-depth-3.result.now within (c.as_slice-in-loop-depth-2.ensures.value ∙ placed) (c.as_slice-in-loop-depth-3.ensures.value ∙ lists)

pub row-requires-clause-few : goal.row-requires-clause-few
row-requires-clause-few c =
    let levels = c.args.levels.now in
    let members = c.members.result.now in
    let IsRead : List (ℕ × ℕ) → Type 0 = λ ms. ms ≡ get_or levels c.loop-depth.depth ms in
    let read : IsRead members = subst IsRead (sym c.members.ensures) c.index-levels-depth.is in
    let leaves = c.args.leaves.now.items in
    let depth = c.loop-depth.depth in
    let within = c.loop-depth-test.true in
    let placed : c.in_ok-placed.placed.items ≡ placed_at leaves depth =
    placed_now leaves levels c.requires depth c.as_slice.result.now c.as_slice-in-loop-depth.result.now c.in_ok-placed.placed.items within
    (c.as_slice.ensures.value ∙ c.loop-depth.invariant.order_is) (c.as_slice-in-loop-depth.ensures.value ∙ c.loop-depth.invariant.lists_are) c.in_ok-placed.ensures in
    let lists : c.in_ok-lists-2.lists.items ≡ lists_of leaves (get_or levels (suc depth) []) (suc depth) =
    lists_next leaves levels c.requires depth members c.in_ok-lists-2.lists.items within read c.in_ok-lists-2.ensures in
    placed_few leaves levels c.requires depth c.as_slice-in-loop-depth-2.result.now c.as_slice-in-loop-depth-3.result.now within (c.as_slice-in-loop-depth-2.ensures.value ∙ placed) (c.as_slice-in-loop-depth-3.ensures.value ∙ lists)

pub loop-depth-preserved : goal.loop-depth-preserved
loop-depth-preserved c =
    let levels = c.args.levels.now in
    let members = c.members.result.now in
    let IsRead : List (ℕ × ℕ) → Type 0 = λ ms. ms ≡ get_or levels c.loop-depth.depth ms in
    let read : IsRead members = subst IsRead (sym c.members.ensures) c.index-levels-depth.is in
    let leaves = c.args.leaves.now.items in
    let depth = c.loop-depth.depth in
    let within = c.loop-depth-test.true in
    let placed : c.in_ok-placed.placed.items ≡ placed_at leaves depth =
    placed_now leaves levels c.requires depth c.as_slice.result.now c.as_slice-in-loop-depth.result.now c.in_ok-placed.placed.items within
    (c.as_slice.ensures.value ∙ c.loop-depth.invariant.order_is) (c.as_slice-in-loop-depth.ensures.value ∙ c.loop-depth.invariant.lists_are) c.in_ok-placed.ensures in
    let lists : c.in_ok-lists-2.lists.items ≡ lists_of leaves (get_or levels (suc depth) []) (suc depth) =
    lists_next leaves levels c.requires depth members c.in_ok-lists-2.lists.items within read c.in_ok-lists-2.ensures in
    let row : c.in_ok-row.field-0 ≡ nodes_below leaves depth =
    row_now leaves levels c.requires depth c.as_slice-in-loop-depth-2.result.now c.as_slice-in-loop-depth-3.result.now c.in_ok-row.field-0 within (c.as_slice-in-loop-depth-2.ensures.value ∙ placed) (c.as_slice-in-loop-depth-3.ensures.value ∙ lists) c.in_ok-row.ensures in
    record {
      rows_are = rows_next leaves levels c.requires depth c.loop-depth.rows c.push.new.self c.in_ok-row.field-0 c.loop-depth.invariant.rows_are row c.in_ok-push.ensures.ok;
      order_is = order_next leaves levels c.requires depth c.as_slice-in-loop-depth-4.result.now c.in_ok-order-2.order.items (c.as_slice-in-loop-depth-4.ensures.value ∙ placed) c.in_ok-order-2.ensures;
      lists_are = lists_step leaves levels c.requires depth c.in_ok-lists-2.lists.items lists;
    }
