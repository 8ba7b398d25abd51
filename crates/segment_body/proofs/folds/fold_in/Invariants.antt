-- What holds at each turn of `fold_in`.
use Rattle.std.proofs.Common.{◌≡◌, take}
use Rattle.segment_body.specs.Folds.{picked, are_at}
use Rattle.segment_body.proofs.folds.fold_in.Given as goal

-- the numbers of the groups so far
abbrev pub invariant-loop-i : goal.invariant-loop-i
invariant-loop-i l = l.tally ≡ record { aggregator = l.fn.aggregator; values = picked (are_at l.columns l.at) (take l.i l.groups) }
