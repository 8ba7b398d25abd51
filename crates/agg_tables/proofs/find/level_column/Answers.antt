-- That `level_column` ensures what it says, may call `column_named` and keeps what holds at each turn.
use Rattle.std.proofs.Common.{◌∙◌, sym, refl, add-one}
use Rattle.olap_meaning.proofs.Lists.{passes_at}
use Rattle.olap_catalog.specs.Parts.{has_levels}
use Rattle.agg_tables.specs.Declarations.{is_hierarchy}
use Rattle.agg_tables.proofs.FindFacts.{next_found, next_passed}
use Rattle.agg_tables.proofs.find.level_column.Goals as goal

pub column_named-requires : goal.column_named-requires
column_named-requires c = passes_at (has_levels c.args.catalog.now.columns) c.args.catalog.now.hierarchies c.loop-h.h c.hierarchy.result.now c.layout_holds.ensures.levels c.hierarchy.ensures

pub returns-then-is_hierarchy : goal.returns-then-is_hierarchy
returns-then-is_hierarchy c =
    let told = rw (c.as_str.ensures, c.if-is_hierarchy.true) at c.is_hierarchy.ensures in
    let found = next_found (is_hierarchy c.args.catalog.now c.args.cube.now c.args.level.now.hierarchy) c.args.catalog.now.hierarchies c.loop-h.h c.hierarchy.result.now c.hierarchy.ensures told in
    let all = sym c.loop-h.invariant ∙ found in
    c.column_named.ensures ∙ rw (c.as_str-then-is_hierarchy.ensures, all) refl

pub loop-h-preserved : goal.loop-h-preserved
loop-h-preserved c =
    let told = rw (c.as_str.ensures, c.if-is_hierarchy.false) at c.is_hierarchy.ensures in
    rw (add-one c.loop-h.h) (next_passed (is_hierarchy c.args.catalog.now c.args.cube.now c.args.level.now.hierarchy) c.args.catalog.now.hierarchies c.loop-h.h told ∙ c.loop-h.invariant)
