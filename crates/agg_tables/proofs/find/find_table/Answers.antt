-- That `find_table` ensures `found` and `placed`, and may call `measures_of`.
use Rattle.std.proofs.Common.{◌≡◌, ◌∙◌, Some, ap, sym}
use Rattle.std.specs.Prelude.{slice_get}
use Rattle.std.proofs.lemmas.Option.{slice_get-get_or}
use Rattle.olap_meaning.specs.declared.schema.SchemaAggregate.{SchemaAggregate}
use Rattle.agg_tables.proofs.FindFacts.{declared_there, has_measures, is_placed}
use Rattle.agg_tables.proofs.find.find_table.Goals as goal

pub measures_of-requires : goal.measures_of-requires
measures_of-requires c = (has_measures c.args.catalog.now c.cube_of-cube.result c.cube-parts.result.now c.is_whole.ensures.schema c.is_whole.ensures.cubes c.cube-parts.ensures).few

pub returns-clause-found : goal.returns-clause-found
returns-clause-found c =
    let own = c.index-as_slice-table.result in
    let is = rw (c.as_slice.ensures, c.schema.ensures) at c.index-as_slice-table.is in
    let at : slice_get c.args.catalog.now.schema.aggregates c.args.table ≡ Some own = slice_get-get_or c.args.catalog.now.schema.aggregates c.args.table own c.requires.known ∙ ap (λ (a : SchemaAggregate). Some a) (sym is) in
    let levels = rw c.as_slice-2.ensures at c.in_ok-levels_of.ensures in
    let measures = rw c.as_slice-3.ensures at c.in_ok-measures_of.ensures in
    rw (c.in_ok-copy.ensures, levels, measures) (declared_there c.args.catalog.now c.args.table c.cube_of-cube.result own c.cube-parts.result.now at c.cube_of-cube.ensures.cube c.cube-parts.ensures)

pub returns-clause-placed : goal.returns-clause-placed
returns-clause-placed c =
    let own = c.index-as_slice-table.result in
    let levels = rw c.as_slice-2.ensures at c.in_ok-levels_of.ensures in
    let measures = rw c.as_slice-3.ensures at c.in_ok-measures_of.ensures in
    rw (c.in_ok-copy.ensures, levels, measures) (is_placed c.args.catalog.now own c.cube_of-cube.result c.cube-parts.result.now c.is_whole.ensures.schema c.is_whole.ensures.cubes c.layout_holds.ensures.levels c.cube-parts.ensures)
