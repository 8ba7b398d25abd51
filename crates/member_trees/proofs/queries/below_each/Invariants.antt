use Rattle.std.proofs.Common.{◌≡◌, [], ◌∷◌, ◌++◌, map, take, get_or}
use Rattle.member_trees.specs.declared.node.Node.{Node}
use Rattle.member_trees.proofs.queries.below_each.Given as goal

abbrev pub invariant-loop-node : goal.invariant-loop-node
invariant-loop-node l = l.paths ≡ map (λ (node : Node). get_or l.above node.parent [] ++ node.value ∷ []) (take l.node-index l.row)
