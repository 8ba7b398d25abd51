use Rattle.std.proofs.Common.{sym, ◌∙◌, ap}
use Rattle.olap_meaning.specs.Catalog.{below}
use Rattle.member_trees.specs.Trees.{TreeOf}
use Rattle.member_trees.proofs.Below.{none_past}
use Rattle.member_trees.proofs.tree.MemberTree.span_below.Goals as goal

pub returns-then-path-self-clause-none : goal.returns-then-path-self-clause-none
returns-then-path-self-clause-none c =
    ap (λ (t : TreeOf). below t.leaves c.args.path.now) (sym c.self.view_is)
    ∙ none_past c.self.inside.of.items c.self.inside.levels c.args.path.now c.self.invariant.whole c.if-path-self.true
