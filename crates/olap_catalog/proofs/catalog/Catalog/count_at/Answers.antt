-- That `count_at` stays within its numbers.
use Rattle.std.proofs.Common.{◌≤◌, All, subst, length, arith}
use Rattle.olap_meaning.specs.declared.schema.TheConstants.{LEVEL_LIMIT}
use Rattle.olap_meaning.specs.declared.tables.Hierarchy.{Hierarchy}
use Rattle.olap_meaning.specs.declared.tables.Catalog.{Catalog}
use Rattle.olap_catalog.proofs.LevelFacts.{level_small}
use Rattle.olap_catalog.proofs.catalog.Catalog.count_at.Goals as goal

pub overflow_add-level : goal.overflow_add-level
overflow_add-level c =
    let few = subst (λ (k : Catalog). All (λ (x : Hierarchy). length x.levels ≤ LEVEL_LIMIT) k.hierarchies) c.self.view_is c.self.invariant.few_levels in
    let small = level_small c.args.self.now c.args.h c.args.level few c.requires in
    omega (arith, small)
