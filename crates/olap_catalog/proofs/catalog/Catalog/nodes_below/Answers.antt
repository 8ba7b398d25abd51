-- That `nodes_below` ensures what it says.
use Rattle.std.proofs.Common.{◌∙◌, ap, sym, subst}
use Rattle.std.specs.Option.{option_copied}
use Rattle.olap_catalog.proofs.MemberFacts.{values_in_tree, no_values, nodes_own}
use Rattle.olap_catalog.proofs.OwnFacts.{IsWhole, parts_whole}
use Rattle.olap_catalog.proofs.catalog.Catalog.nodes_below.Goals as goal

pub returns-in-None-clause-values : goal.returns-in-None-clause-values
returns-in-None-clause-values c = no_values c.args.self.now c.args.h c.args.path.now (sym (ap option_copied c.in-None.is) ∙ c.tree_at.ensures)

pub returns-in-Some-clause-values : goal.returns-in-Some-clause-values
returns-in-Some-clause-values c =
    values_in_tree c.args.self.now c.args.h c.in-Some.tree.now c.args.path.now c.nodes_below.result.now (sym (ap option_copied c.in-Some.is) ∙ c.tree_at.ensures) c.nodes_below.ensures

pub returns-in-Some-clause-own : goal.returns-in-Some-clause-own
returns-in-Some-clause-own c =
    nodes_own c.args.self.now c.args.h c.in-Some.tree.now c.args.path.now c.nodes_below.result.now (subst IsWhole c.self.view_is (parts_whole c.self.invariant)) (sym (ap option_copied c.in-Some.is) ∙ c.tree_at.ensures) c.nodes_below.ensures
