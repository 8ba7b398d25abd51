-- What the state of a tally stands for.
use Rattle.std.specs.Prelude.{List, ℤ}
use Rattle.olap_meaning.specs.declared.Aggregator.{Aggregator}
use Rattle.olap_meaning.specs.declared.Aggregator.TheVariants as by
use Rattle.measure_folds.specs.Kept.{extreme_aggregator}
use Rattle.measure_folds.specs.declared.state.State.{State}
use Rattle.measure_folds.specs.declared.state.State.TheVariants.{Sum, Count, Extreme, Avg, DistinctCount}

-- what a state sums up by
abbrev pub aggregator_of : State → Aggregator
aggregator_of (Sum _) = by.Sum
aggregator_of (Count _) = by.Count
aggregator_of (Extreme extreme) = extreme_aggregator extreme.is_greatest
aggregator_of (Avg _) = by.Avg
aggregator_of (DistinctCount _) = by.DistinctCount

-- the numbers that it was handed, in order
abbrev pub numbers_of : State → List ℤ
numbers_of (Sum numbers) = numbers
numbers_of (Count numbers) = numbers
numbers_of (Extreme extreme) = extreme.numbers
numbers_of (Avg numbers) = numbers
numbers_of (DistinctCount numbers) = numbers
