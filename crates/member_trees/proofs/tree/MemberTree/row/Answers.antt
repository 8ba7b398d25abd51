use Rattle.std.proofs.Common.{◌≡◌, ◌∙◌, ap, get_or, length, List, arith}
use Rattle.member_trees.specs.declared.node.Node.{Node}
use Rattle.member_trees.specs.Trees.{TreeOf}
use Rattle.member_trees.specs.Nodes.{nodes_below}
use Rattle.member_trees.proofs.Kept.{length-rows, row-is, few-nodes}
use Rattle.member_trees.proofs.RowsByPlace.{length-row}
use Rattle.member_trees.proofs.tree.MemberTree.row.Goals as goal
use Rattle.member_trees.proofs.tree.MemberTree.row.Goals.{After-as_slice, After-as_slice-2}

pub bounds-as_slice-depth : goal.bounds-as_slice-depth
bounds-as_slice-depth c =
    let levels = ap (λ (t : TreeOf). t.levels) c.self.view_is in
    let rows = length-rows c.self.invariant in
    let items = ap length c.as_slice.ensures in
    omega (arith, levels, rows, items)

nodes : (c : After-as_slice-2) → c.as_slice-2.result.now ≡ nodes_below c.args.self.now.leaves c.args.depth
nodes c =
    let levels = ap (λ (t : TreeOf). t.levels) c.self.view_is in
    c.as_slice-2.ensures
    ∙ row-is c.self.invariant c.args.depth c.index-as_slice-depth.result (omega (arith, levels))
    (c.index-as_slice-depth.is ∙ ap (λ (rows : List (List Node)). get_or rows c.args.depth c.index-as_slice-depth.result) c.as_slice.ensures)
    ∙ ap (λ (t : TreeOf). nodes_below t.leaves c.args.depth) c.self.view_is

pub returns-clause-nodes : goal.returns-clause-nodes
returns-clause-nodes c = nodes c

pub returns-clause-count : goal.returns-clause-count
returns-clause-count c = ap length (nodes c) ∙ length-row c.args.self.now.leaves c.args.depth

pub returns-clause-few : goal.returns-clause-few
returns-clause-few c =
    let is = ap length (nodes c) in
    let leaves = ap (λ (t : TreeOf). length (nodes_below t.leaves c.args.depth)) c.self.view_is in
    let few = few-nodes c.self.invariant c.args.depth in
    omega (arith, is, leaves, few)
