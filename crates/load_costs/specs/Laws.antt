-- What the costs of loads depend on, which tables are built, and what a load reads of them.
use Rattle.std.specs.Prelude.{ℕ, suc, ◌≡◌, ◌+◌, ◌↔◌, ◌∷◌, ◌++◌, false, List, Contains, IsTrue, Some, is_some, length, map}
use Rattle.std.specs.List.{list_any}
use Rattle.olap_meaning.specs.declared.cells.Who.{Who}
use Rattle.olap_meaning.specs.declared.tables.Catalog.{Catalog}
use Rattle.olap_meaning.specs.Catalog.{table_cube}
use Rattle.olap_meaning.specs.History.{Agg, Entry, Load, Start, load_at, rows_of}
use Rattle.olap_meaning.specs.Legal.{rise}
use Rattle.olap_meaning.specs.Worth.{load_rows}
use Rattle.agg_tables.specs.Cheapest.{IsCheapest}
use Rattle.agg_tables.specs.Costs.{read_cost}
use Rattle.agg_tables.specs.Tables.{TableOf, built_over}
use Rattle.load_costs.specs.Costs.{builds, cost, last_built, reads, seat_costs, start_cost, start_read, tables_built, version_built}

-- what a load costs and reads that was started stays as it is, whatever comes after: a table that is built later does not
-- change it
abbrev pub CostsStay : Type 0
CostsStay =
    (catalog : Catalog) (entries more : List Entry) (j : ℕ) (load : Load)
    → load_at entries j ≡ Some load
    → (cost catalog (entries ++ more) j ≡ cost catalog entries j)
    × (reads catalog (entries ++ more) j ≡ reads catalog entries j)

-- what a load reads and costs by its position is what it reads and costs after the entries before its Start
abbrev pub LoadsCountAtTheirStart : Type 0
LoadsCountAtTheirStart =
    (catalog : Catalog) (before after : List Entry) (load : Load)
    → (reads catalog (before ++ Start load ∷ after) (suc (length before))
    ≡ start_read catalog before load)
    × (cost catalog (before ++ Start load ∷ after) (suc (length before))
    ≡ read_cost (load_rows before load) (start_read catalog before load))

-- what entries cost a seat is what the first cost it, and what the others cost it that come after these
abbrev pub CostsAddUp : Type 0
CostsAddUp =
    (catalog : Catalog) (seat : ℕ) (before first others : List Entry)
    → seat_costs catalog seat before (first ++ others)
    ≡ seat_costs catalog seat before first + seat_costs catalog seat (before ++ first) others

-- where no table is built a load costs the rows of its version
abbrev pub LoadsReadRows : Type 0
LoadsReadRows =
    (catalog : Catalog) (history : List Entry) (load : Load)
    → list_any builds history ≡ false → start_cost catalog history load ≡ load_rows history load

-- a table is built last by an entry after which none builds it
abbrev pub LastBuildsCount : Type 0
LastBuildsCount =
    (table version : ℕ) (who : Who) (before after : List Entry)
    → list_any (λ entry. is_some (version_built table entry)) after ≡ false
    → last_built table (before ++ Agg who table version ∷ after) ≡ Some version

-- a table is one that a history has built: a table that the schema declares, over the rows of the version of its cube over
-- which it was built last
pub record IsBuilt (catalog : Catalog) (history : List Entry) (table : TableOf) : Type 0 where
  pub version : ℕ
  pub cube : ℕ
  pub last : last_built table.table history ≡ Some version
  pub known : table_cube catalog table.table ≡ Some cube
  pub over : built_over catalog table.table version (rows_of history cube version) ≡ Some table

-- the tables of a history are just those that it has built, in the order of the schema
abbrev pub TablesAreThoseBuilt : Type 0
TablesAreThoseBuilt =
    (catalog : Catalog) (history : List Entry)
    → ((table : TableOf)
    → Contains (tables_built catalog history) table ↔ IsBuilt catalog history table)
    × IsTrue (rise (map (λ table. table.table) (tables_built catalog history)))

-- a load reads the cheapest of the facts of its version and the tables that were built before its Start
abbrev pub LoadsReadTheCheapest : Type 0
LoadsReadTheCheapest =
    (catalog : Catalog) (history : List Entry) (load : Load)
    → IsCheapest load.header load.version (load_rows history load)
    (tables_built catalog history) (start_read catalog history load)
