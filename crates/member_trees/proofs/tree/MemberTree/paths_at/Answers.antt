use Rattle.std.proofs.Common.{◌≡◌, ◌+◌, ◌<◌, ℕ, suc, List, [], ◌∷◌, ◌++◌, map, get_or, ap, ◌∙◌, sym, subst, length, All, arith}
use Rattle.member_trees.specs.declared.node.Node.{Node}
use Rattle.olap_meaning.specs.Catalog.{at_depth}
use Rattle.member_trees.proofs.RowsByPlace.{by-parents, parents-within}
use Rattle.member_trees.proofs.tree.MemberTree.paths_at.Goals as goal

pub below_each-requires : goal.below_each-requires
below_each-requires c =
    let leaves = c.args.self.now.leaves in
    subst (λ (paths : List (List ℕ)). All (λ (node : Node). node.parent < length paths) c.row.result.now) (sym c.loop-above.invariant)
    (subst (λ (row : List Node). All (λ (node : Node). node.parent < length (at_depth leaves c.loop-above.above)) row) (sym c.row.ensures.nodes) (parents-within leaves c.loop-above.above))

pub loop-above-preserved : goal.loop-above-preserved
loop-above-preserved c =
    let leaves = c.args.self.now.leaves in
    let depth = c.loop-above.above in
    let next : depth + 1 ≡ suc depth = omega arith in
    let made : c.in_ok-paths.paths ≡ map (λ (node : Node). get_or c.loop-above.paths node.parent [] ++ node.value ∷ []) c.row.result.now = c.in_ok-paths.ensures in
    made
    ∙ ap (λ (paths : List (List ℕ)). map (λ (node : Node). get_or paths node.parent [] ++ node.value ∷ []) c.row.result.now) c.loop-above.invariant
    ∙ ap (λ (row : List Node). map (λ (node : Node). get_or (at_depth leaves depth) node.parent [] ++ node.value ∷ []) row) c.row.ensures.nodes
    ∙ by-parents leaves depth ∙ ap (at_depth leaves) (sym next)
