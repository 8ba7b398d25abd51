use Rattle.std.proofs.Common.{◌≡◌, ◌+◌, ◌-◌, ℕ, suc, ap, length, flat_map, arith}
use Rattle.olap_meaning.specs.Catalog.{at_depth, under}
use Rattle.member_trees.specs.Trees.{TreeOf}
use Rattle.member_trees.proofs.Under.{left-step, left-none}
use Rattle.member_trees.proofs.tree.MemberTree.count_under.Goals as goal

pub loop-depth-preserved : goal.loop-depth-preserved
loop-depth-preserved c =
    let tree = c.args.self.now in
    let levels = ap (λ (t : TreeOf). t.levels) c.self.view_is in
    let depth = c.loop-depth.depth in
    let left = left-step tree.leaves tree.levels depth (omega (arith, levels)) in
    let next : depth + 1 ≡ suc depth = omega arith in
    let same = ap (λ (d : ℕ). length (flat_map (under tree.leaves (tree.levels - d)) (at_depth tree.leaves d))) next in
    let so_far = c.loop-depth.invariant.1 in
    let row = c.row.ensures.count in
    let few = c.row.ensures.few in
    (omega arith, omega (arith, left, same, so_far, row))

pub returns-clause-count : goal.returns-clause-count
returns-clause-count c =
    let tree = c.args.self.now in
    let levels = ap (λ (t : TreeOf). t.levels) c.self.view_is in
    let none = left-none tree.leaves tree.levels c.loop-depth.depth (omega (arith, levels)) in
    let so_far = c.loop-depth.invariant.1 in
    omega (arith, none, so_far)
