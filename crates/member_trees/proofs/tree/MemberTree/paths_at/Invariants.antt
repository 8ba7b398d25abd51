use Rattle.std.proofs.Common.{◌≡◌}
use Rattle.olap_meaning.specs.Catalog.{at_depth}
use Rattle.member_trees.proofs.tree.MemberTree.paths_at.Given as goal

abbrev pub invariant-loop-above : goal.invariant-loop-above
invariant-loop-above l = l.paths ≡ at_depth l.self.leaves l.above
