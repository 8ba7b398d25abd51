use Rattle.member_trees.proofs.Steps.{step-found, step-none}
use Rattle.member_trees.proofs.tree.MemberTree.step.Goals as goal

pub returns-in-Some-clause-found : goal.returns-in-Some-clause-found
returns-in-Some-clause-found c =
    let found = c.in-Some.ensures in
    step-found c.args.self.now.leaves c.args.depth c.args.path.now c.args.span.start c.args.span.end c.in-Some.place c.index-path-depth.result c.span_at.result.start c.span_at.result.end c.row.result.now c.requires.at c.requires.goes_on c.row.ensures.nodes found.from_start found.below_end found.found c.index-path-depth.is c.span_at.ensures

pub returns-in-None-clause-none : goal.returns-in-None-clause-none
returns-in-None-clause-none c =
    step-none c.args.self.now.leaves c.args.depth c.args.path.now c.args.span.start c.args.span.end c.index-path-depth.result c.row.result.now c.requires.at c.requires.goes_on c.row.ensures.nodes c.index-path-depth.is c.in-None.ensures.none
