-- The catalog is that of the schema and its tables, and it has the schema's cubes.
use Rattle.std.proofs.Common.{subst, sym}
use Rattle.std.proofs.lemmas.Result.{err_from_is_err_and}
use Rattle.olap_catalog.specs.Parts.{records_in}
use Rattle.cache_opening.specs.Steps.{HasCubes}
use Rattle.cache_opening.proofs.CatalogSteps.{catalog_read, catalog_stops, has_cubes, schema_unread, tables_unread}
use Rattle.cache_opening.proofs.catalogs.open_catalog.Goals as goal

pub returns-in_err-schema-clause-read : goal.returns-in_err-schema-clause-read
returns-in_err-schema-clause-read g c =
    let p = err_from_is_err_and c.from_residual.result c.from_residual.ensures.1 in rw (p.1, p.2)
    (schema_unread c.args.file.now (g.D.Depot.files c.args.depot.now) (g.D.Depot.answers c.args.depot.now) (g.D.Depot.answers c.open_schema.new.depot) c.in_err-schema.field-0.0 c.in_err-schema.ensures.read)

pub returns-in_err-tables-clause-read : goal.returns-in_err-tables-clause-read
returns-in_err-tables-clause-read g c =
    let p = err_from_is_err_and c.from_residual-in_err-tables.result c.from_residual-in_err-tables.ensures.1 in rw (p.1, p.2)
    (tables_unread c.args.file.now (g.D.Depot.files c.args.depot.now) (g.D.Depot.answers c.args.depot.now) (g.D.Depot.answers c.open_schema.new.depot) (g.D.Depot.answers c.open_tables.new.depot) c.in_ok-schema.schema
    c.in_ok-schema.ensures.read c.in_err-tables.field-0.0 (rw c.open_schema.ensures.same_files at c.in_err-tables.ensures.fault))

pub returns-in_err-build_catalog-clause-read : goal.returns-in_err-build_catalog-clause-read
returns-in_err-build_catalog-clause-read g c =
    let p = err_from_is_err_and c.from_residual-in_err-build_catalog.result c.from_residual-in_err-build_catalog.ensures.1 in rw (p.1, p.2)
    (catalog_stops c.args.file.now (g.D.Depot.files c.args.depot.now) (g.D.Depot.answers c.args.depot.now) (g.D.Depot.answers c.open_schema.new.depot) (g.D.Depot.answers c.open_tables.new.depot) c.in_ok-schema.schema
    c.in_ok-schema.ensures.read (records_in c.in_ok-tables.tables) (rw c.open_schema.ensures.same_files at c.in_ok-tables.ensures.ok))

pub returns-clause-read : goal.returns-clause-read
returns-clause-read g c =
    catalog_read c.args.file.now (g.D.Depot.files c.args.depot.now) (g.D.Depot.answers c.args.depot.now) (g.D.Depot.answers c.open_schema.new.depot) (g.D.Depot.answers c.open_tables.new.depot) c.in_ok-schema.schema
    c.in_ok-schema.ensures.read (records_in c.in_ok-tables.tables) (rw c.open_schema.ensures.same_files at c.in_ok-tables.ensures.ok) c.in_ok-build_catalog.field-0 c.in_ok-build_catalog.ensures

pub returns-clause-whole : goal.returns-clause-whole
returns-clause-whole g c = subst HasCubes (sym c.in_ok-build_catalog.ensures) (has_cubes c.in_ok-schema.schema (records_in c.in_ok-tables.tables))
