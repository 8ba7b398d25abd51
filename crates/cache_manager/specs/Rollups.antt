-- Cells that are rolled up from kept loads.
use Rattle.std.specs.Prelude.{ℕ, ◌≡◌, ◌<◌, List, [], ◌∷◌, ◌++◌, ◌&&◌, Bool, true, Option, Some, None, All, position, IsTrue, filter, length, map, slice_get, slice_set}
use Rattle.std.specs.List.{AllZip, list_all}
use Rattle.std.specs.Option.{option_and_then}
use Rattle.olap_meaning.specs.declared.cells.Cell.{Cell}
use Rattle.olap_meaning.specs.declared.tables.Catalog.{Catalog}
use Rattle.olap_meaning.specs.declared.tables.Measure.{Measure}
use Rattle.olap_meaning.specs.Covering.{among}
use Rattle.olap_meaning.specs.History as history
use Rattle.olap_meaning.specs.History.{Entry, exact_source, is_some_and}
use Rattle.olap_meaning.specs.Legal.{is_cell}
use Rattle.olap_meaning.specs.Rolled.{value_count}
use Rattle.olap_meaning.specs.Values.{aggregate}
use Rattle.olap_meaning.specs.Worth.{answered_version, measure_of, worth}
use Rattle.history_core.specs.declared.answers.Answered.{Answered}
use Rattle.history_core.specs.Groups.{alike}
use Rattle.measure_folds.specs.Tallied.{Tallied}
use Rattle.cache_flush.specs.Loads.{KeptOf, is_candidate, numbers_of}
use Rattle.rollup_plan.specs.Plans.{IsRolledBy}
use Rattle.rollup_plan.specs.Serving.{ServesAlike, plan_serves}
use Rattle.rollup_plan.specs.declared.plan.Plan.{Plan}
use Rattle.cache_manager.specs.Kept.{IsKept}
use Rattle.cache_manager.specs.declared.rollups.Rollup.{Rollup}

-- what is kept on a shelf is what a history keeps: each load, and no other
pub record AreKept (catalog : Catalog) (entries : List Entry) (loads : List KeptOf) : Type 0 where
  pub are : All (IsKept catalog entries) loads
  pub every : (j : ℕ) → IsTrue (history.kept entries j) → IsTrue (among (numbers_of loads) j)

-- the numbers of the kept loads from which a cell may be rolled up
abbrev pub candidates_for : List KeptOf → Cell → List ℕ
candidates_for loads cell = numbers_of (filter (λ kept. is_candidate kept cell) loads)

-- the loads of a plan, in its order
abbrev pub planned : Plan → List ℕ
planned plan = map (λ part. part.load) plan.parts

-- a plan is one for a cell: its loads are candidates for the cell, which is rolled up by it
pub record IsPlanFor (catalog : Catalog) (loads : List KeptOf) (plan : Plan) (cell : Cell)
    : Type 0 where
  pub measure : Measure
  pub is_measure : measure_of catalog cell ≡ Some measure
  pub known : All (λ load. IsTrue (among (candidates_for loads cell) load)) (planned plan)
  pub rolls : IsRolledBy measure.aggregator (value_count catalog) cell loads plan

-- cells may be rolled up together: they have one cube, one measure and the same columns
abbrev pub all_alike : List Cell → Bool
all_alike [] = true
all_alike (cell ∷ cells) = list_all (alike cell) cells

-- a rollup is one of some cells without an exact source, by one plan that is one for each of them
pub record IsRollup (catalog : Catalog) (entries : List Entry) (loads : List KeptOf)
    (rollup : Rollup) : Type 0 where
  pub some : 0 < length rollup.cells.items
  pub named : rollup.loads.items ≡ planned rollup.plan
  pub same : IsTrue (all_alike rollup.cells.items)
  pub known : IsTrue (list_all (is_cell catalog) rollup.cells.items)
  pub unserved : All (λ cell. exact_source entries cell ≡ None) rollup.cells.items
  pub planned_for : All (IsPlanFor catalog loads rollup.plan) rollup.cells.items

-- the cell at a place of a rollup
abbrev pub cell_at : List Rollup → ℕ → ℕ → Option Cell
cell_at rollups number place =
    option_and_then (λ rollup. slice_get rollup.cells.items place) (slice_get rollups number)

-- a cell may be rolled up by the plan of a rollup: it is alike to the first cell there, and the plan serves it
pub record MayJoin (loads : List KeptOf) (rollup : Rollup) (cell : Cell) : Type 0 where
  pub first : Cell
  pub is_first : slice_get rollup.cells.items 0 ≡ Some first
  pub same : IsTrue (alike first cell)
  pub served : IsTrue (plan_serves loads rollup.plan cell)
  pub rolls : ServesAlike loads rollup.plan cell

-- whether it may, as a decision
abbrev pub may_join : List KeptOf → Cell → Rollup → Bool
may_join loads cell rollup =
    is_some_and (λ first. alike first cell) (slice_get rollup.cells.items 0)
    && plan_serves loads rollup.plan cell

-- the place of the first rollup by whose plan a cell may be rolled up
abbrev pub first_serving : List KeptOf → List Rollup → Cell → Option ℕ
first_serving loads rollups cell = position (may_join loads cell) rollups

-- a cell was added to a rollup, after those that were there, and nothing else has changed
pub record HasJoined (before after : List Rollup) (number place : ℕ) (cell : Cell) : Type 0 where
  pub was : Rollup
  pub at : slice_get before number ≡ Some was
  pub joined : Rollup
  pub loads : joined.loads.items ≡ was.loads.items
  pub plan : joined.plan ≡ was.plan
  pub cells : joined.cells.items ≡ was.cells.items ++ cell ∷ []
  pub place_is : place ≡ length was.cells.items
  pub changed : after ≡ slice_set before number joined

-- a rollup of one cell was begun by a plan
pub record IsBegun (plan : Plan) (cell : Cell) (rollup : Rollup) : Type 0 where
  pub plan_is : rollup.plan ≡ plan
  pub loads : rollup.loads.items ≡ planned plan
  pub cells : rollup.cells.items ≡ cell ∷ []

-- what is answered by a tally over the rows of a version
pub record IsToldBy (version : ℕ) (tally : Tallied) (answered : Answered) : Type 0 where
  pub value : answered.value ≡ aggregate tally.aggregator tally.values
  pub version_is : answered.version ≡ version

-- each cell of some rollups stands at its place in others too
abbrev pub GoOn : List Rollup → List Rollup → Type 0
GoOn before after =
    (number place : ℕ) (cell : Cell) → cell_at before number place ≡ Some cell
    → cell_at after number place ≡ Some cell

-- where some of these rollups serve a cell, the first that does is the first of others too
abbrev pub KeepFirsts : List KeptOf → List Rollup → List Rollup → Type 0
KeepFirsts loads before after =
    (cell : Cell) (number : ℕ) → first_serving loads before cell ≡ Some number
    → first_serving loads after cell ≡ Some number

-- what is answered of a cell that is taken from some loads: its worth, and the version of the loads
pub record IsWorth (catalog : Catalog) (entries : List Entry) (loads : List ℕ) (cell : Cell)
    (answered : Answered) : Type 0 where
  pub value : worth catalog entries (record { cell = cell; loads = loads }) ≡ Some answered.value
  pub version : answered_version entries (record { cell = cell; loads = loads })
      ≡ Some answered.version

-- so it is for each cell of some rollups
abbrev pub AreRolledUp : Catalog → List Entry → List Rollup → List (List Answered) → Type 0
AreRolledUp catalog entries rollups answered =
    AllZip
    (λ rollup each. AllZip (IsWorth catalog entries rollup.loads.items) rollup.cells.items each)
    rollups answered
