-- That `nodes_below` ensures what it says.
use Rattle.std.proofs.Common.{List, [], ◌∷◌, ◌++◌, map, ap, ◌∙◌, slice_range}
use Rattle.member_trees.specs.declared.node.Node.{Node}
use Rattle.member_trees.proofs.Spans.{span-paths}
use Rattle.member_trees.proofs.tree.MemberTree.nodes_below.Goals as goal

pub returns-in-Some : goal.returns-in-Some
returns-in-Some c =
    ap (λ (row : List Node). map (λ (node : Node). c.args.path.now ++ node.value ∷ []) (slice_range row c.in-Some.span.start c.in-Some.span.end)) c.row.ensures.nodes
    ∙ span-paths c.in-Some.ensures.found
