-- The conditions of four legal steps as tests, for the plain code that decides them.
use Rattle.std.specs.Prelude.{ℕ, ◌+◌, List, Bool, ◌==◌, ◌&&◌, length, map, nat_lt, nat_le, is_none, not}
use Rattle.std.specs.List.{list_all}
use Rattle.olap_meaning.specs.declared.TheConstants.{VERSION_LIMIT}
use Rattle.olap_meaning.specs.declared.tables.Setting.{Setting}
use Rattle.olap_meaning.specs.declared.cells.Who.{Who}
use Rattle.olap_meaning.specs.declared.cells.Cell.{Cell}
use Rattle.olap_meaning.specs.declared.cells.Header.{Header}
use Rattle.olap_meaning.specs.declared.tables.Row.{Row}
use Rattle.olap_meaning.specs.Covering.{just_covers}
use Rattle.olap_meaning.specs.History.{Entry, version, awaited_load, is_some_and}
use Rattle.olap_meaning.specs.Budget.{kept_groups, may_evict, oldest_kept}
use Rattle.olap_meaning.specs.Catalog.{table_cube}
use Rattle.olap_meaning.specs.Legal.{has_source, is_next_call, is_row, is_cell, rise, rows_held}

-- the six conditions of a legal append, in their order
abbrev pub append_test : Setting → List Entry → Who → ℕ → ℕ → List Row → Bool
append_test setting history who cube v rows =
    is_next_call history who && nat_lt cube (length setting.catalog.cubes)
    && (v == version history cube + 1) && nat_le v VERSION_LIMIT
    && list_all (is_row setting.catalog cube) rows
    && nat_le (rows_held history + length rows) setting.row_limit

-- the two conditions of a legal aggregate table: the call is the next, and the table's cube has reached the version
abbrev pub agg_test : Setting → List Entry → Who → ℕ → ℕ → Bool
agg_test setting history who table v =
    is_next_call history who
    && is_some_and (λ cube. nat_le v (version history cube)) (table_cube setting.catalog table)

-- the six conditions of a legal Start, in their order
abbrev pub start_test : Setting → List Entry → Header → ℕ → Cell → Bool
start_test setting history header v reason =
    is_cell setting.catalog reason && rise (map (λ column. column.0) header.columns)
    && just_covers header reason && (v == version history header.cube)
    && not (has_source setting.catalog history reason) && is_none (awaited_load history reason)

-- the three conditions of a legal eviction, in their order
abbrev pub evict_test : Setting → List Entry → ℕ → Bool
evict_test setting history j =
    is_some_and (λ oldest. oldest == j) (oldest_kept history)
    && nat_lt setting.budget (kept_groups setting.catalog history) && may_evict history
