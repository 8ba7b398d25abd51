use Rattle.member_trees.proofs.Steps.{first-at}
use Rattle.member_trees.proofs.tree.MemberTree.first_of.Goals as goal

pub returns-then-place-row-clause-begins : goal.returns-then-place-row-clause-begins
returns-then-place-row-clause-begins c =
    first-at c.args.self.now.leaves c.args.depth c.args.place c.row-row.result.now c.index-row-place.result c.requires.below_top c.row-row.ensures.nodes c.if-place-row.true
