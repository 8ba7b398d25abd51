-- How a job is run.
use Rattle.std.specs.Prelude.{ℕ, ◌≡◌, ◌≤◌, List, Option, IsTrue, length}
use Rattle.olap_meaning.specs.declared.TheConstants.{ROW_LIMIT}
use Rattle.olap_meaning.specs.declared.cells.Header.{Header}
use Rattle.olap_meaning.specs.declared.tables.Catalog.{Catalog}
use Rattle.fact_versions.specs.FactRows.{FactRows}
use Rattle.segment_header.specs.Headers.{is_header}
use Rattle.fact_reader.specs.BodyRows.{is_loadable, are_batches, rows_in}
use Rattle.agg_tables.specs.Costs.{read_cost}
use Rattle.agg_tables.specs.Tables.{TableOf}
use Rattle.segment_load.specs.Loads.{MayRead}

-- what a job keeps: a header that is well formed and can be loaded, batches of its cube, with rows within the limit, what
-- it reads, and what that costs, which is no more than the rows
pub record IsJob (catalog : Catalog) (header : Header) (snapshot : List FactRows)
    (read : Option TableOf) (cost : ℕ) : Type 0 where
  pub header_holds : IsTrue (is_header header)
  pub loadable : IsTrue (is_loadable catalog header)
  pub fit : IsTrue (are_batches catalog header.cube snapshot)
  pub room : length (rows_in snapshot) ≤ ROW_LIMIT
  pub may : MayRead catalog header snapshot read
  pub counted : cost ≡ read_cost (length (rows_in snapshot)) read
  pub least : cost ≤ length (rows_in snapshot)
