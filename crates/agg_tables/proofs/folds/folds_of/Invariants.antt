-- What holds at each turn of `folds_of`.
use Rattle.std.proofs.Common.{◌≡◌, map, take}
use Rattle.agg_tables.proofs.folds.folds_of.Given as goal

-- the measures so far are summed up
abbrev pub invariant-loop-own : goal.invariant-loop-own
invariant-loop-own l = l.folds.items ≡ map (λ own. record { measure = own.measure; aggregator = own.aggregator }) (take l.own-index l.measures)
