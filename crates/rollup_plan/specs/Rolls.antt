-- What a roll needs of rows, and what it gives.
use Rattle.std.specs.Prelude.{ℕ, ℤ, ◌≡◌, ◌≢◌, ◌<◌, List, [], Option, Some, All, IsTrue, filter, filter_map, length, map, option_map}
use Rattle.std.specs.List.{list_all}
use Rattle.std.specs.List.Sorted.{IsPermutation}
use Rattle.std.specs.Option.{option_map_or}
use Rattle.olap_meaning.specs.declared.Aggregator.TheVariants.{DistinctCount}
use Rattle.olap_meaning.specs.declared.cells.Cell.{Cell}
use Rattle.olap_meaning.specs.declared.tables.Catalog.{Catalog}
use Rattle.olap_meaning.specs.declared.tables.Measure.{Measure}
use Rattle.olap_meaning.specs.declared.tables.Row.{Row}
use Rattle.olap_meaning.specs.Rolled.{header_columns, value_count}
use Rattle.olap_meaning.specs.Values.{aggregate}
use Rattle.olap_meaning.specs.Worth.{fact, measure_of, row_in, value_over}
use Rattle.measure_folds.specs.Tallied.{Tallied}
use Rattle.segment_body.specs.AllFolds.{FoldOf, fold_of}
use Rattle.fact_reader.specs.BodyRows.{HoldsRows, is_valued}
use Rattle.cache_flush.specs.Loads.{KeptOf}
use Rattle.rollup_plan.specs.Plans.{MakeCell, kept_at, shares_of}
use Rattle.rollup_plan.specs.declared.plan.Part.{Part}
use Rattle.rollup_plan.specs.declared.plan.Plan.{Plan}

-- the kept loads of some parts
abbrev pub loads_at : List KeptOf → List Part → List KeptOf
loads_at loads parts = filter_map (λ part. kept_at loads part.load) parts

-- what is folded of the bodies of some parts: the rows that have in the split a value that is the part's own
abbrev pub folds_at : List KeptOf → ℕ → List Part → List FoldOf
folds_at loads split parts =
    filter_map
    (λ part. option_map (λ kept. fold_of kept.body split part.own) (kept_at loads part.load)) parts

-- rows are those of some parts over kept loads: the body of each of their loads holds the rows, which have in each column
-- of the load one of the column's values
pub record AreRowsOf (catalog : Catalog) (cube : ℕ) (loads : List KeptOf) (parts : List Part)
    (rows : List Row) : Type 0 where
  pub held : All (λ kept. HoldsRows catalog kept.body.header rows kept.body) (loads_at loads parts)
  pub valued : All
      (λ kept. IsTrue
      (list_all (λ row. list_all (is_valued catalog cube row) (header_columns kept.body.header)) rows))
      (loads_at loads parts)

-- rows lie after a plan for a cell over kept loads: there is a part, and each is that of a kept load; their shares make
-- the cell; the rows are those of the parts; and the cell's measure is no distinct count
pub record LieBehind (catalog : Catalog) (cell : Cell) (loads : List KeptOf) (plan : Plan)
    (rows : List Row) : Type 0 where
  pub some : 0 < length plan.parts
  pub kept : length (shares_of loads plan.parts) ≡ length plan.parts
  pub made : MakeCell (value_count catalog) cell plan.split (shares_of loads plan.parts)
  pub behind : AreRowsOf catalog cell.cube loads plan.parts rows
  pub measure : Measure
  pub is_measure : measure_of catalog cell ≡ Some measure
  pub adds_up : measure.aggregator ≢ DistinctCount

-- the numbers of those of some rows that are in a cell, in the fact column of its measure, in order
abbrev pub cell_numbers : Catalog → Cell → List Row → List (Option ℤ)
cell_numbers catalog cell rows =
    option_map_or
    (λ measure. map (fact catalog cell.cube measure.column) (filter (row_in catalog cell) rows))
    (measure_of catalog cell) []

-- a tally is that of a cell over some rows: of the measure's aggregator, and of the rows that are in the cell, each once,
-- in some order; so that the cell is worth its aggregate
pub record IsRolledUp (catalog : Catalog) (rows : List Row) (cell : Cell) (tally : Tallied)
    : Type 0 where
  pub aggregator :
      option_map (λ measure. measure.aggregator) (measure_of catalog cell) ≡ Some tally.aggregator
  pub rows_once : IsPermutation (cell_numbers catalog cell rows) tally.values
  pub worth : aggregate tally.aggregator tally.values ≡ value_over catalog cell rows
