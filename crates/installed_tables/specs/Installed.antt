-- How an aggregate table is installed among others, and what a history says of the tables that it has built. (Aggregate
-- Tables)
use Rattle.std.specs.Prelude.{ℕ, ◌==◌, List, [], ◌∷◌, length, nat_lt, if◌then◌else◌}
use Rattle.std.specs.Option.{option_map_or}
use Rattle.olap_meaning.specs.declared.tables.Catalog.{Catalog}
use Rattle.olap_meaning.specs.Catalog.{table_cube}
use Rattle.olap_meaning.specs.History.{Entry, version}
use Rattle.agg_tables.specs.Tables.{TableOf, groups_in}
use Rattle.load_costs.specs.Costs.{table_built, version_rows}

-- a table among others that stand in the order of the schema: it stands in the place of its declaration, and an earlier one
-- of its declaration gives way
abbrev pub put : TableOf → List TableOf → List TableOf
put table [] = table ∷ []
put table (own ∷ tables) =
    if nat_lt own.table table.table
    then own ∷ put table tables
    else (if own.table == table.table then table ∷ tables else table ∷ own ∷ tables)

-- how many groups a table of the schema has, as it was built last
abbrev pub groups_built : Catalog → List Entry → ℕ → ℕ
groups_built catalog history table =
    option_map_or (λ own. length (groups_in own.bodies)) (table_built catalog history table) 0

-- the present version of the cube of a table of the schema
abbrev pub present_version : Catalog → List Entry → ℕ → ℕ
present_version catalog history table =
    option_map_or (version history) (table_cube catalog table) 0

-- how many rows the present version has
abbrev pub present_rows : Catalog → List Entry → ℕ → ℕ
present_rows catalog history table =
    version_rows catalog history table (present_version catalog history table)
