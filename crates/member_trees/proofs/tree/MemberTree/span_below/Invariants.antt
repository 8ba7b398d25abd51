use Rattle.std.proofs.Common.{take}
use Rattle.member_trees.specs.Spans.{IsSpan}
use Rattle.member_trees.proofs.tree.MemberTree.span_below.Given as goal

abbrev pub invariant-loop-depth : goal.invariant-loop-depth
invariant-loop-depth l = IsSpan l.self.leaves l.depth (take l.depth l.path) l.span.start l.span.end
