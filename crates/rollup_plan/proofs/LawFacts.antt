-- What plans are good for.
use Rattle.std.proofs.Common.{◌≡◌, ◌≤◌, ℕ, List, [], ◌∷◌, Option, None, Some, length, map, refl, arith}
use Rattle.std.proofs.lemmas.List.{length-map}
use Rattle.olap_meaning.specs.declared.cells.Cell.{Cell}
use Rattle.olap_meaning.specs.declared.tables.Catalog.{Catalog}
use Rattle.olap_meaning.specs.declared.tables.Measure.{Measure}
use Rattle.olap_meaning.specs.declared.tables.Row.{Row}
use Rattle.olap_meaning.specs.Rolled.{value_count}
use Rattle.olap_meaning.specs.Worth.{measure_of}
use Rattle.cache_flush.specs.Loads.{KeptOf}
use Rattle.rollup_plan.specs.declared.plan.Plan.{Plan}
use Rattle.rollup_plan.specs.Plans.{IsRolledBy, kept_at, offers_at}
use Rattle.rollup_plan.specs.Rolls.{AreRowsOf, LieBehind}

few_offers : (loads : List KeptOf) (numbers : List ℕ) → length (offers_at loads numbers) ≤ length numbers
few_offers loads [] = omega arith
few_offers loads (n ∷ ns) = by (kept_at loads n) refl (few_offers loads ns)
  where
    by : (o : Option KeptOf) → kept_at loads n ≡ o → length (offers_at loads ns) ≤ length ns → length (offers_at loads (n ∷ ns)) ≤ length (n ∷ ns)
    by None is rest = rw is (omega arith)
    by (Some kept) is rest = rw is (omega arith)

-- a plan by which a cell is rolled up, and the rows of its parts
pub plans_roll : (catalog : Catalog) (cell : Cell) (measure : Measure) (loads : List KeptOf) (plan : Plan) (rows : List Row) → measure_of catalog cell ≡ Some measure → IsRolledBy measure.aggregator (value_count catalog) cell loads plan
    → AreRowsOf catalog cell.cube loads plan.parts rows → LieBehind catalog cell loads plan rows
plans_roll catalog cell measure loads plan rows is_measure rolls behind = record {
  some = omega (arith, rolls.rolled.some, few_offers loads (map (λ part. part.load) plan.parts), length-map plan.parts (λ part. part.load));
  kept = rolls.kept;
  made = rolls.made;
  behind = behind;
  measure = measure;
  is_measure = is_measure;
  adds_up = rolls.rolled.adds_up;
}
