-- The laws of plans and rolls.
use Rattle.std.specs.Prelude.{ℕ, ◌≡◌, List, Some, All, IsTrue, filter}
use Rattle.olap_meaning.specs.declared.cells.Cell.{Cell}
use Rattle.olap_meaning.specs.declared.tables.Catalog.{Catalog}
use Rattle.olap_meaning.specs.declared.tables.Measure.{Measure}
use Rattle.olap_meaning.specs.declared.tables.Row.{Row}
use Rattle.olap_meaning.specs.Covering.{among}
use Rattle.olap_meaning.specs.Rolled.{value_count}
use Rattle.olap_meaning.specs.Worth.{measure_of}
use Rattle.cache_flush.specs.Loads.{KeptOf, is_candidate, numbers_of}
use Rattle.rollup_plan.specs.declared.plan.Plan.{Plan}
use Rattle.rollup_plan.specs.Plans.{IsRolledBy, is_candidate_at}
use Rattle.rollup_plan.specs.Rolls.{AreRowsOf, LieBehind}

-- the rows of the parts of a plan by which a cell is rolled up lie after it, as a roll asks
abbrev pub PlansRoll : Type 0
PlansRoll =
    (catalog : Catalog) (cell : Cell) (measure : Measure) (loads : List KeptOf) (plan : Plan)
    (rows : List Row)
    → measure_of catalog cell ≡ Some measure
    → IsRolledBy measure.aggregator (value_count catalog) cell loads plan
    → AreRowsOf catalog cell.cube loads plan.parts rows → LieBehind catalog cell loads plan rows

-- numbers that are those of the kept loads that are candidates for a cell are numbers of candidates
abbrev pub CandidatesAreKept : List KeptOf → Type 0
CandidatesAreKept loads =
    (cell : Cell) (numbers : List ℕ)
    → ((number : ℕ) → among numbers number
    ≡ among (numbers_of (filter (λ kept. is_candidate kept cell) loads)) number)
    → All (λ number. IsTrue (is_candidate_at loads cell number)) numbers
