-- That `parts_of` may call `trees_of` and ensures what it says.
use Rattle.std.proofs.Common.{◌≤◌, ◌∙◌, All, ap, sym, subst, length, map}
use Rattle.std.proofs.lemmas.List.Sums.{AllPass-from_list_all}
use Rattle.olap_meaning.specs.declared.schema.TheConstants.{LEVEL_LIMIT}
use Rattle.olap_meaning.specs.declared.tables.Hierarchy.{Hierarchy}
use Rattle.olap_meaning.specs.Schema.{all_columns, all_hierarchies}
use Rattle.std.specs.List.{list_all}
use Rattle.catalog_tables.specs.Tables.{TableOf, have_fields, are_filled}
use Rattle.olap_catalog.specs.Parts.{has_levels, plain, tree_of}
use Rattle.olap_catalog.specs.Tables.{over}
use Rattle.olap_catalog.proofs.PartFacts.{tables_fit, levels_fit, levels_few, parts_fit}
use Rattle.olap_catalog.proofs.parts.parts_of.Goals as goal

pub trees_of-requires-clause-tables : goal.trees_of-requires-clause-tables
trees_of-requires-clause-tables c =
    let tables = c.in_ok-tables.ensures.same in
    tables_fit c.args.schema.now c.in_ok-tables.tables c.in_ok-layout.layout.columns (ap (list_all (λ (t : TableOf). have_fields t.levels t.records)) tables ∙ c.in_ok-tables.ensures.even)
    (ap (map (λ (t : TableOf). t.levels)) tables ∙ c.requires.levels) c.in_ok-layout.ensures.columns

pub trees_of-requires-clause-leveled : goal.trees_of-requires-clause-leveled
trees_of-requires-clause-leveled c =
    let layout = c.in_ok-layout.layout in
    let all = levels_fit c.args.schema.now layout.columns layout.hierarchies c.in_ok-layout.ensures.columns c.in_ok-layout.ensures.hierarchies in
    AllPass-from_list_all (has_levels layout.columns) c.as_slice-hierarchies.result.now (ap (list_all (has_levels layout.columns)) c.as_slice-hierarchies.ensures ∙ all)

pub trees_of-requires-clause-few : goal.trees_of-requires-clause-few
trees_of-requires-clause-few c =
    let few = levels_few c.args.schema.now c.in_ok-layout.layout.hierarchies c.requires.whole c.in_ok-layout.ensures.hierarchies in
    subst (All (λ (h : Hierarchy). length h.levels ≤ LEVEL_LIMIT)) (sym c.as_slice-hierarchies.ensures) few

pub returns-clause-plain : goal.returns-clause-plain
returns-clause-plain c =
    let schema = c.args.schema.now in
    let layout = c.in_ok-layout.layout in
    let laid_out = c.in_ok-layout.ensures in
    let columns = all_columns 0 schema.dimensions in
    let hierarchies = all_hierarchies 0 0 schema.dimensions in
    ap (λ tables. plain schema tables layout.columns layout.hierarchies layout.cubes) c.in_ok-tables.ensures.same
    ∙ ap (λ some. plain schema c.args.tables some layout.hierarchies layout.cubes) laid_out.columns
    ∙ ap (λ some. plain schema c.args.tables columns some layout.cubes) laid_out.hierarchies
    ∙ ap (plain schema c.args.tables columns hierarchies) laid_out.cubes

pub returns-clause-are : goal.returns-clause-are
returns-clause-are c =
    let tables = c.in_ok-tables.ensures.same in
    let layout = c.in_ok-layout.layout in
    let laid_out = c.in_ok-layout.ensures in
    let names = c.in_ok-names.names in
    let named = c.in_ok-names.ensures in
    parts_fit c.args.schema.now c.in_ok-tables.tables layout.columns layout.hierarchies layout.cubes c.in_ok-trees.trees layout.full_names layout.roots
    (record { cubes = names.cubes; tables = names.tables; measures = names.measures; roots = names.roots; levels = names.levels }) c.requires.whole
    (ap (list_all (λ (t : TableOf). have_fields t.levels t.records)) tables ∙ c.in_ok-tables.ensures.even)
    (ap (list_all (λ (t : TableOf). are_filled t.records)) tables ∙ c.in_ok-tables.ensures.filled)
    (ap (map (λ (t : TableOf). t.levels)) tables ∙ c.requires.levels)
    laid_out.columns
    laid_out.hierarchies
    laid_out.cubes
    (c.in_ok-trees.ensures ∙ ap (map (tree_of (over c.args.schema.now c.in_ok-tables.tables layout.columns))) c.as_slice-hierarchies.ensures)
    laid_out.full_names
    laid_out.roots
    named.cubes
    named.tables
    named.measures
    named.roots
    named.levels
