-- That the cheapest of the facts and some aggregate tables is read. (Aggregate Tables)
use Rattle.std.specs.Prelude.{ℕ, ◌≡◌, ◌<◌, ◌≤◌, ◌∷◌, ◌++◌, List, All, IsTrue, None, Option, Some}
use Rattle.olap_meaning.specs.declared.cells.Header.{Header}
use Rattle.agg_tables.specs.Costs.{cheapest, may_read, table_cost}
use Rattle.agg_tables.specs.Tables.{TableOf}

-- a table may be read, and so
abbrev pub IfMayRead : Header → ℕ → (TableOf → Type 0) → TableOf → Type 0
IfMayRead header version so table = IsTrue (may_read header version table) → so table

-- what is read is the cheapest: the facts, where they cost less than each table that may be read; or a table that may be
-- read, no dearer than the facts, where each that may be read costs more, if it stands before, and no less, if after
abbrev pub IsCheapest : Header → ℕ → ℕ → List TableOf → Option TableOf → Type 0
IsCheapest header version rows tables None =
    All (IfMayRead header version (λ table. rows < table_cost rows table)) tables
IsCheapest header version rows tables (Some own) =
    IsTrue (may_read header version own) × (table_cost rows own ≤ rows)
    × (before : List TableOf) × (after : List TableOf) × (tables ≡ before ++ own ∷ after)
    × All (IfMayRead header version (λ table. table_cost rows own < table_cost rows table)) before
    × All (IfMayRead header version (λ table. table_cost rows own ≤ table_cost rows table)) after

-- for each load the cheapest of the facts and some tables is read
abbrev pub CheapestIsLeast : Type 0
CheapestIsLeast =
    (header : Header) (version rows : ℕ) (tables : List TableOf)
    → IsCheapest header version rows tables (cheapest header version rows tables)
