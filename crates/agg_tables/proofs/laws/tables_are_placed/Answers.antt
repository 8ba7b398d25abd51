-- That `tables_are_placed` ensures what it says.
use Rattle.std.proofs.Common.{subst}
use Rattle.std.specs.Prelude.{option_and_then, option_map, slice_get}
use Rattle.olap_meaning.specs.declared.schema.SchemaAggregate.{SchemaAggregate}
use Rattle.olap_meaning.specs.Catalog.{table_cube}
use Rattle.olap_meaning.proofs.Lists.{mapped_from}
use Rattle.agg_tables.specs.Bound.{IsPlaced}
use Rattle.agg_tables.specs.Declarations.{declared_for}
use Rattle.agg_tables.proofs.FindFacts.{gone_on, is_placed}
use Rattle.agg_tables.proofs.laws.tables_are_placed.Goals as goal

pub returns : goal.returns
returns c table declared at =
    let catalog = c.args.catalog.now in
    let own = gone_on (λ (a : SchemaAggregate). option_and_then (λ place. option_map (declared_for catalog a place) (slice_get catalog.cubes place)) (table_cube catalog table)) (slice_get catalog.schema.aggregates table) declared at in
    let place = gone_on (λ place. option_map (declared_for catalog own.0 place) (slice_get catalog.cubes place)) (table_cube catalog table) declared own.2 in
    let cube = mapped_from (declared_for catalog own.0 place.0) (slice_get catalog.cubes place.0) declared place.2 in
    subst (IsPlaced catalog) cube.2 (is_placed catalog own.0 place.0 cube.0 c.is_whole.ensures.schema c.is_whole.ensures.cubes c.layout_holds.ensures.levels cube.1)
