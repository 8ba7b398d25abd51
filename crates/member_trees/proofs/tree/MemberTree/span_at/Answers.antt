use Rattle.std.proofs.Common.{arith}
use Rattle.member_trees.proofs.Steps.{span-from}
use Rattle.member_trees.proofs.tree.MemberTree.span_at.Goals as goal

pub overflow_add-place : goal.overflow_add-place
overflow_add-place c = omega arith

pub returns : goal.returns
returns c =
    span-from c.args.self.now.leaves c.args.depth c.args.place c.first_of.result c.first_of-2.result c.requires.within c.first_of.ensures.begins c.first_of-2.ensures.begins
