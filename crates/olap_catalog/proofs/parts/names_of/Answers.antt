-- That `names_of` ensures what it says.
use Rattle.std.proofs.Common.{◌∙◌, ap, map}
use Rattle.olap_meaning.specs.declared.schema.SchemaAggregate.{SchemaAggregate}
use Rattle.olap_meaning.specs.declared.tables.Cube.{Cube}
use Rattle.olap_catalog.specs.Roots.{level_names_in, measure_names, root_names_in}
use Rattle.olap_catalog.proofs.parts.names_of.Goals as goal

pub returns-clause-cubes : goal.returns-clause-cubes
returns-clause-cubes c = c.in_ok-cube_names_of.ensures ∙ ap (map (λ (cube : Cube). cube.name)) c.as_slice-cubes.ensures

pub returns-clause-tables : goal.returns-clause-tables
returns-clause-tables c = c.in_ok-table_names_of.ensures ∙ ap (map (λ (table : SchemaAggregate). table.name)) c.as_slice.ensures

pub returns-clause-measures : goal.returns-clause-measures
returns-clause-measures c = c.in_ok-measure_names_of.ensures ∙ ap (map measure_names) c.as_slice-cubes.ensures

pub returns-clause-roots : goal.returns-clause-roots
returns-clause-roots c =
    c.in_ok-root_names_of.ensures ∙ ap (λ names. map (root_names_in names) c.as_slice-3.result.now) c.as_slice-2.ensures
    ∙ ap (map (root_names_in c.args.layout.now.full_names)) c.as_slice-3.ensures

pub returns-clause-levels : goal.returns-clause-levels
returns-clause-levels c =
    c.in_ok-level_names_of.ensures ∙ ap (λ columns. map (level_names_in columns) c.as_slice-hierarchies.result.now) c.as_slice-4.ensures
    ∙ ap (map (level_names_in c.args.layout.now.columns)) c.as_slice-hierarchies.ensures
