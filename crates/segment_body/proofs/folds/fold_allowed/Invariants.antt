-- What holds at each turn of `fold_allowed`.
use Rattle.std.proofs.Common.{◌≡◌, take}
use Rattle.segment_body.specs.Folds.{picked, are_at_allowed}
use Rattle.segment_body.proofs.folds.fold_allowed.Given as goal

-- the numbers of the groups so far
abbrev pub invariant-loop-i : goal.invariant-loop-i
invariant-loop-i l =
    l.tally
    ≡ record { aggregator = l.fn.aggregator; values = picked (are_at_allowed l.columns l.at l.column l.allowed) (take l.i l.groups) }
