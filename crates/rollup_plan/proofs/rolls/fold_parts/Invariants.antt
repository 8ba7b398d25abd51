-- What holds at each turn of `fold_parts`.
use Rattle.std.proofs.Common.{◌≡◌, take}
use Rattle.std.specs.List.Sorted.{IsPermutation}
use Rattle.segment_body.specs.AllFolds.{folded_numbers}
use Rattle.rollup_plan.specs.Rolls.{folds_at}
use Rattle.rollup_plan.proofs.rolls.fold_parts.Given as goal

-- the tally is that of the parts so far
abbrev pub invariant-loop-i : goal.invariant-loop-i
invariant-loop-i g l = record {
  alike : l.tally.aggregator ≡ l.fn.aggregator;
  rows : IsPermutation (folded_numbers l.cell (folds_at (g.S.Shelf.loads l.shelf) l.split (take l.i l.parts))) l.tally.values;
}
