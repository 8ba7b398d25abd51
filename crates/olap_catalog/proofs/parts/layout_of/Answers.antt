-- That `layout_of` may call `roots_of` and ensures what it says.
use Rattle.std.proofs.Common.{◌≡◌, ◌∙◌, ap, arith, flat_map, length, map}
use Rattle.olap_meaning.specs.declared.tables.Cube.{Cube}
use Rattle.olap_meaning.specs.Schema.{all_columns, all_hierarchies, cube_over, hierarchies_in}
use Rattle.olap_catalog.specs.Roots.{full_name_in, hierarchies_among}
use Rattle.olap_catalog.proofs.PartFacts.{length_all_hierarchies}
use Rattle.olap_catalog.proofs.parts.layout_of.Goals as goal

pub roots_of-requires : goal.roots_of-requires
roots_of-requires c =
    let dimensions = c.as_slice-dimensions.ensures in
    let same : length c.as_slice-3.result.now ≡ length (hierarchies_in c.args.schema.now) =
    ap length (c.as_slice-3.ensures ∙ c.in_ok-hierarchies.ensures ∙ ap (all_hierarchies 0 0) dimensions) ∙ length_all_hierarchies 0 0 c.args.schema.now.dimensions in
    omega (arith, c.requires.limits.hierarchies, same)

pub returns-clause-columns : goal.returns-clause-columns
returns-clause-columns c = c.in_ok-columns.ensures ∙ ap (all_columns 0) c.as_slice-dimensions.ensures

pub returns-clause-hierarchies : goal.returns-clause-hierarchies
returns-clause-hierarchies c = c.in_ok-hierarchies.ensures ∙ ap (all_hierarchies 0 0) c.as_slice-dimensions.ensures

pub returns-clause-cubes : goal.returns-clause-cubes
returns-clause-cubes c =
    c.in_ok-cubes.ensures ∙ ap (λ dimensions. map (cube_over dimensions) c.as_slice.result.now) c.as_slice-dimensions.ensures
    ∙ ap (map (cube_over c.args.schema.now.dimensions)) c.as_slice.ensures

pub returns-clause-full_names : goal.returns-clause-full_names
returns-clause-full_names c =
    c.in_ok-full_names.ensures ∙ ap (λ dimensions. map (full_name_in dimensions) c.as_slice-2.result.now) c.as_slice-dimensions.ensures
    ∙ ap (map (full_name_in c.args.schema.now.dimensions)) c.as_slice-2.ensures

pub returns-clause-roots : goal.returns-clause-roots
returns-clause-roots c =
    c.in_ok-roots.ensures ∙ ap (λ hierarchies. map (λ (cube : Cube). flat_map (hierarchies_among hierarchies) cube.dimensions) c.as_slice-4.result.now) c.as_slice-3.ensures
    ∙ ap (map (λ (cube : Cube). flat_map (hierarchies_among c.in_ok-hierarchies.hierarchies) cube.dimensions)) c.as_slice-4.ensures
