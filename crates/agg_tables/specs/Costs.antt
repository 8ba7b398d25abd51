-- What a load reads: the facts, or an aggregate table and the facts of later versions; and what it costs. (Aggregate
-- Tables)
use Rattle.std.specs.Prelude.{ℕ, ◌≡◌, ◌+◌, ◌-◌, ◌==◌, ◌&&◌, Bool, List, [], ◌∷◌, Option, Some, None, length, nat_le, take, if◌then◌else◌}
use Rattle.std.specs.List.{list_all, list_any}
use Rattle.olap_meaning.specs.declared.cells.Header.{Header}
use Rattle.olap_meaning.specs.declared.tables.Catalog.{Catalog}
use Rattle.olap_meaning.specs.Rolled.{adds_up}
use Rattle.fact_versions.specs.FactRows.{FactRows}
use Rattle.segment_body.specs.BodyOf.{BodyOf}
use Rattle.agg_tables.specs.Tables.{TableOf, built, groups_in}

-- a header has a column
abbrev pub has_column_of : Header → ℕ → Bool
has_column_of header column = list_any (λ own. own.0 == column) header.columns

-- a body serves a header: it is of its cube and its measure, which adds up, and has each of its columns
abbrev pub serves : Header → BodyOf → Bool
serves header body =
    (body.header.cube == header.cube)
    && (body.header.measure == header.measure)
    && adds_up body.aggregator
    && list_all (λ own. has_column_of body.header own.0) header.columns

-- a table is usable for a header: one of its measures serves it
abbrev pub is_usable : Header → TableOf → Bool
is_usable header table = table.measured && list_any (serves header) table.bodies

-- a table may be read for a load of a header from a version: it is usable, and not newer
abbrev pub may_read : Header → ℕ → TableOf → Bool
may_read header version table = is_usable header table && nat_le table.version version

-- what it costs to read a table for a version of this many rows: its groups, and the rows after its own
abbrev pub table_cost : ℕ → TableOf → ℕ
table_cost rows table = length (groups_in table.bodies) + (rows - table.rows)

-- what a load costs that reads the facts, or a table
abbrev pub read_cost : ℕ → Option TableOf → ℕ
read_cost rows None = rows
read_cost rows (Some table) = table_cost rows table

-- a table that may be read, where it costs no more than what is read else
abbrev pub cheaper : Header → ℕ → ℕ → TableOf → Option TableOf → Option TableOf
cheaper header version rows table other =
    if may_read header version table && nat_le (table_cost rows table) (read_cost rows other)
    then Some table
    else other

-- the cheapest of the facts of a version and some tables that may be read: of several that cost as much the first, and the
-- facts last
abbrev pub cheapest : Header → ℕ → ℕ → List TableOf → Option TableOf
cheapest header version rows [] = None
cheapest header version rows (table ∷ tables) =
    cheaper header version rows table (cheapest header version rows tables)

-- a table is what is built over the first versions of a snapshot, up to its own
abbrev pub IsTableOver : Catalog → List FactRows → TableOf → Type 0
IsTableOver catalog snapshot table =
    built catalog table.table (take table.version snapshot) ≡ Some table
