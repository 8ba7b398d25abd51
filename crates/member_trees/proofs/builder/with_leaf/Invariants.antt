-- What the loop of `with_leaf` keeps.
use Rattle.std.proofs.Common.{length}
use Rattle.member_trees.proofs.PushFacts.{HasComeTo}
use Rattle.member_trees.proofs.builder.with_leaf.Given as goal

-- the levels above the depth that it has come to have the leaf, and the others not yet
abbrev pub invariant-loop-depth : goal.invariant-loop-depth
invariant-loop-depth l = HasComeTo l.of.items l.path (length l.initial.levels.items) l.depth l.parent l.levels.items
