-- What the loop of `rows` keeps.
use Rattle.std.proofs.Common.{◌≡◌, [], map, get_or}
use Rattle.std.specs.List.{range_with_len}
use Rattle.member_trees.specs.Nodes.{nodes_below}
use Rattle.member_trees.proofs.RowFacts.{order_at, lists_of}
use Rattle.member_trees.proofs.rows.rows.Given as goal

-- the rows so far, and the numbers and the children of the members of the depth that it has come to
abbrev pub invariant-loop-depth : goal.invariant-loop-depth
invariant-loop-depth l = record {
  rows_are : l.rows ≡ map (nodes_below l.leaves.items) (range_with_len 0 l.depth);
  order_is : l.order.items ≡ order_at l.leaves.items l.depth;
  lists_are : l.lists.items ≡ lists_of l.leaves.items (get_or l.levels l.depth []) l.depth;
}
