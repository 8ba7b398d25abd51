-- What the loads of a history cost, by the tables that were built before them; and what the entries of a seat cost. (Aggregate
-- Tables)
use Rattle.std.specs.Prelude.{ℕ, zero, suc, ◌+◌, ◌==◌, Bool, true, false, List, [], ◌∷◌, ◌++◌, Option, Some, None, filter_map, length, option_and_then, take, if◌then◌else◌}
use Rattle.std.specs.List.{range_with_len}
use Rattle.std.specs.Option.{option_map_or, option_or}
use Rattle.olap_meaning.specs.declared.tables.Catalog.{Catalog}
use Rattle.olap_meaning.specs.Catalog.{table_cube}
use Rattle.olap_meaning.specs.History.{Agg, Entry, Load, Start, load_at, rows_of}
use Rattle.olap_meaning.specs.Worth.{load_rows}
use Rattle.agg_tables.specs.Costs.{cheapest, read_cost}
use Rattle.agg_tables.specs.Tables.{TableOf, built_over}

-- an entry builds a table
abbrev pub builds : Entry → Bool
builds (Agg who table version) = true
builds _ = false

-- the version over which an entry builds a table
abbrev pub version_built : ℕ → Entry → Option ℕ
version_built table (Agg who own version) = if own == table then Some version else None
version_built table _ = None

-- the version over which some entries have built a table last
abbrev pub last_built : ℕ → List Entry → Option ℕ
last_built table [] = None
last_built table (entry ∷ entries) = option_or (last_built table entries) (version_built table entry)

-- a table of the schema as some entries have built it last
abbrev pub table_built : Catalog → List Entry → ℕ → Option TableOf
table_built catalog history table =
    option_and_then
    (λ version. option_and_then
    (λ cube. built_over catalog table version (rows_of history cube version))
    (table_cube catalog table)) (last_built table history)

-- the tables that some entries have built, in the order of their declarations
abbrev pub tables_built : Catalog → List Entry → List TableOf
tables_built catalog history =
    filter_map
    (table_built catalog history) (range_with_len 0 (length catalog.schema.aggregates))

-- what a load reads that is started after some entries: the cheapest of the facts of its version and the tables that these
-- entries have built
abbrev pub start_read : Catalog → List Entry → Load → Option TableOf
start_read catalog history load =
    cheapest load.header load.version (load_rows history load) (tables_built catalog history)

-- what that costs
abbrev pub start_cost : Catalog → List Entry → Load → ℕ
start_cost catalog history load =
    read_cost (load_rows history load) (start_read catalog history load)

-- what the load reads that is started at a position, by the entries before it: no table where it reads the facts, and where
-- none is started
abbrev pub reads : Catalog → List Entry → ℕ → Option TableOf
reads catalog history zero = None
reads catalog history (suc before) =
    option_and_then (start_read catalog (take before history)) (load_at history (suc before))

-- what it costs, and 0 where none is started
abbrev pub cost : Catalog → List Entry → ℕ → ℕ
cost catalog history zero = 0
cost catalog history (suc before) =
    option_map_or
    (start_cost catalog (take before history)) (load_at history (suc before)) 0

-- how many rows a version of the cube of a table has
abbrev pub version_rows : Catalog → List Entry → ℕ → ℕ → ℕ
version_rows catalog history table v =
    option_map_or (λ cube. length (rows_of history cube v)) (table_cube catalog table) 0

-- what an entry costs a seat that comes after others: where the seat starts a load by it, what that costs; and where the
-- seat builds a table by it, the rows of the table's version
abbrev pub seat_cost : Catalog → ℕ → List Entry → Entry → ℕ
seat_cost catalog seat before (Start load) =
    if load.who.seat == seat then start_cost catalog before load else 0
seat_cost catalog seat before (Agg who table v) =
    if who.seat == seat then version_rows catalog before table v else 0
seat_cost catalog seat before _ = 0

-- what some entries after others cost a seat, each by the entries before it
abbrev pub seat_costs : Catalog → ℕ → List Entry → List Entry → ℕ
seat_costs catalog seat before [] = 0
seat_costs catalog seat before (entry ∷ entries) =
    seat_cost catalog seat before entry + seat_costs catalog seat (before ++ entry ∷ []) entries
