-- Which other cells a plan is good for.
use Rattle.std.specs.Prelude.{ℕ, ◌≡◌, ◌&&◌, List, Bool, map}
use Rattle.std.specs.List.{list_all}
use Rattle.olap_meaning.specs.declared.Aggregator.{Aggregator}
use Rattle.olap_meaning.specs.declared.cells.Cell.{Cell}
use Rattle.olap_meaning.specs.Covering.{header_covers}
use Rattle.olap_meaning.specs.History.{is_some_and}
use Rattle.cache_flush.specs.Loads.{KeptOf}
use Rattle.cache_flush.specs.Shuts.{is_live}
use Rattle.rollup_plan.specs.Plans.{IsRolledBy, kept_at}
use Rattle.rollup_plan.specs.declared.plan.Plan.{Plan}

-- the load of a number is kept, covers a cell and is live for it
abbrev pub is_served : List KeptOf → Cell → ℕ → Bool
is_served loads cell number =
    is_some_and
    (λ kept. header_covers kept.body.header cell && is_live kept.shut cell) (kept_at loads number)

-- a plan serves a cell: so is each planned load
abbrev pub plan_serves : List KeptOf → Plan → Cell → Bool
plan_serves loads plan cell = list_all (λ part. is_served loads cell part.load) plan.parts

-- two cells are alike: they have one cube, one measure and the same columns
pub record AreAlike (one other : Cell) : Type 0 where
  pub cube : one.cube ≡ other.cube
  pub measure : one.measure ≡ other.measure
  pub columns : map (λ pair. pair.0) one.at ≡ map (λ pair. pair.0) other.at

-- a plan by which one cell is rolled up does so for another that is alike
abbrev pub ServesAlike : List KeptOf → Plan → Cell → Type 0
ServesAlike loads plan cell =
    (aggregator : Aggregator) (size : ℕ → ℕ) (other : Cell) → AreAlike other cell
    → IsRolledBy aggregator size other loads plan → IsRolledBy aggregator size cell loads plan
