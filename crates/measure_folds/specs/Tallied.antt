-- What a tally stands for.
use Rattle.std.specs.Prelude.{List, Option, ℤ}
use Rattle.olap_meaning.specs.declared.Aggregator.{Aggregator}

-- a measure's values over some rows, a row each, in order, with what they are summed up by
pub record Tallied : Type 0 where
  pub aggregator : Aggregator
  pub values : List (Option ℤ)
