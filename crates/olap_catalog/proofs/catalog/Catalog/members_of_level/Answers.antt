-- That `members_of_level` ensures what it says and stays within its numbers.
use Rattle.std.proofs.Common.{◌≡◌, ◌≤◌, ◌∙◌, ◌+◌, suc, All, ap, sym, subst, map, length, arith}
use Rattle.std.specs.Option.{option_copied}
use Rattle.std.proofs.lemmas.Result.{IfOk-weaker}
use Rattle.olap_meaning.specs.declared.schema.TheConstants.{LEVEL_LIMIT}
use Rattle.olap_meaning.specs.declared.tables.Hierarchy.{Hierarchy}
use Rattle.olap_meaning.specs.declared.tables.Catalog.{Catalog}
use Rattle.olap_meaning.specs.declared.cells.Member.TheVariants as member
use Rattle.olap_meaning.specs.Catalog.{at_depth, paths, paths_at}
use Rattle.member_trees.specs.Trees.{TreeOf}
use Rattle.olap_catalog.proofs.LevelFacts.{level_small}
use Rattle.olap_catalog.proofs.TreeFacts.{with_tree}
use Rattle.olap_catalog.proofs.catalog.Catalog.members_of_level.Goals as goal

pub overflow_add-level : goal.overflow_add-level
overflow_add-level c =
    let few = subst (λ (k : Catalog). All (λ (x : Hierarchy). length x.levels ≤ LEVEL_LIMIT) k.hierarchies) c.self.view_is c.self.invariant.few_levels in
    let small = level_small c.args.self.now c.args.h c.args.level few c.requires in
    omega (arith, small)

pub returns-in_ok-paths_at-in-Some : goal.returns-in_ok-paths_at-in-Some
returns-in_ok-paths_at-in-Some c =
    let next : c.args.level + 1 ≡ suc c.args.level = omega arith in
    let members = with_tree c.args.self.now c.args.h c.in-Some.tree.now (λ (x : Hierarchy). paths_at c.args.self.now x (suc c.args.level)) (λ (t : TreeOf). at_depth t.leaves (c.args.level + 1))
    (sym (ap option_copied c.in-Some.is) ∙ c.tree_at.ensures) (λ (x : Hierarchy). ap (at_depth (paths c.args.self.now x)) next) in
    IfOk-weaker c.members_at.result _ _ (λ found h. h ∙ ap (map (member.At c.args.h)) c.in_ok-paths_at-in-Some.ensures ∙ members) c.members_at.ensures
