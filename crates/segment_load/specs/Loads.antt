-- What a load is to make, from what it reads that, and what it costs.
use Rattle.std.specs.Prelude.{ℕ, ⊤, List, Option, Some, None, IsTrue, length}
use Rattle.olap_meaning.specs.declared.cells.Header.{Header}
use Rattle.olap_meaning.specs.declared.cells.Who.{Who}
use Rattle.olap_meaning.specs.declared.tables.Catalog.{Catalog}
use Rattle.fact_versions.specs.FactRows.{FactRows}
use Rattle.fact_reader.specs.BodyRows.{rows_in}
use Rattle.agg_tables.specs.Costs.{IsTableOver, is_usable, may_read, read_cost}
use Rattle.agg_tables.specs.Tables.{TableOf}

-- what a job is to load: which load of the history it is and whose call it is for, and a header over a snapshot's
-- rows; and the aggregate table that it reads in place of those of the table's version, if it reads one
pub record JobOf : Type 0 where
  pub catalog : Catalog
  pub load : ℕ
  pub who : Who
  pub header : Header
  pub snapshot : List FactRows
  pub read : Option TableOf

-- what a job costs
abbrev pub job_cost : JobOf → ℕ
job_cost job = read_cost (length (rows_in job.snapshot)) job.read

-- a table that may be read for a load of a header from a snapshot is what is built over the first versions of that
abbrev pub IsOffered : Catalog → Header → List FactRows → TableOf → Type 0
IsOffered catalog header snapshot table =
    IsTrue (may_read header (length snapshot) table) → IsTableOver catalog snapshot table

-- a load of a header from a snapshot may read this: the facts, or a table that is usable for the header and built over
-- the first versions of the snapshot
abbrev pub MayRead : Catalog → Header → List FactRows → Option TableOf → Type 0
MayRead catalog header snapshot None = ⊤
MayRead catalog header snapshot (Some table) =
    IsTrue (is_usable header table) × IsTableOver catalog snapshot table
