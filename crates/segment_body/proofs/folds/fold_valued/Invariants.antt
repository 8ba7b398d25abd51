-- What holds at each turn of `fold_valued`.
use Rattle.std.proofs.Common.{◌≡◌, take}
use Rattle.segment_body.specs.Folds.{picked, are_at_value}
use Rattle.segment_body.proofs.folds.fold_valued.Given as goal

-- the numbers of the groups so far
abbrev pub invariant-loop-i : goal.invariant-loop-i
invariant-loop-i l =
    l.tally
    ≡ record { aggregator = l.fn.aggregator; values = picked (are_at_value l.columns l.at l.column l.value) (take l.i l.groups) }
