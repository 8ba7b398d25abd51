use Rattle.std.proofs.Common.{◌≡◌, [], ◌∷◌, ◌++◌, map, take}
use Rattle.member_trees.specs.declared.node.Node.{Node}
use Rattle.member_trees.proofs.queries.paths_of.Given as goal

abbrev pub invariant-loop-node : goal.invariant-loop-node
invariant-loop-node l = l.paths ≡ map (λ (node : Node). l.path ++ node.value ∷ []) (take l.node-index l.nodes)
