use Rattle.std.proofs.Common.{◌≡◌, ◌+◌, ◌*◌, ◌-◌, ◌≤◌, length, flat_map, []}
use Rattle.olap_meaning.specs.declared.schema.TheConstants.{RECORD_LIMIT}
use Rattle.olap_meaning.specs.Catalog.{at_depth, under}
use Rattle.member_trees.proofs.tree.MemberTree.count_under.Given as goal

abbrev pub invariant-loop-depth : goal.invariant-loop-depth
invariant-loop-depth l = (l.count ≤ l.depth * RECORD_LIMIT) × (l.count + length (flat_map (under l.self.leaves (l.self.levels - l.depth)) (at_depth l.self.leaves l.depth)) ≡ length (under l.self.leaves l.self.levels []))
