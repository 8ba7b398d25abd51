-- That `cube_of` ensures `cube` and may call `unwrap`.
use Rattle.std.proofs.Common.{◌≡◌, ◌∙◌, Some, ap, sym, refl}
use Rattle.std.specs.Prelude.{slice_get}
use Rattle.std.proofs.lemmas.Option.{slice_get-get_or}
use Rattle.olap_meaning.specs.declared.schema.SchemaAggregate.{SchemaAggregate}
use Rattle.agg_tables.proofs.FindFacts.{cube_found}
use Rattle.agg_tables.proofs.cube.cube_of.Goals as goal

pub unwrap-requires : goal.unwrap-requires
unwrap-requires c =
    let own = c.index-as_slice-table.result in
    let is = rw (c.as_slice.ensures, c.schema.ensures) at c.index-as_slice-table.is in
    let found = cube_found c.args.catalog.now c.args.table own c.is_whole.ensures.schema c.is_whole.ensures.cubes c.requires.known is in
    rw (c.find_cube.ensures.found, c.as_str.ensures, found.matched) refl

pub returns-clause-cube : goal.returns-clause-cube
returns-clause-cube c =
    let own = c.index-as_slice-table.result in
    let is = rw (c.as_slice.ensures, c.schema.ensures) at c.index-as_slice-table.is in
    let found = cube_found c.args.catalog.now c.args.table own c.is_whole.ensures.schema c.is_whole.ensures.cubes c.requires.known is in
    let at : slice_get c.args.catalog.now.schema.aggregates c.args.table ≡ Some own = slice_get-get_or c.args.catalog.now.schema.aggregates c.args.table own c.requires.known ∙ ap (λ (a : SchemaAggregate). Some a) (sym is) in
    let named : c.find_cube.result ≡ Some found.place = rw (c.find_cube.ensures.found, c.as_str.ensures) found.matched in
    rw (at, found.exact, ← named) c.unwrap.ensures
