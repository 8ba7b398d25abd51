-- What holds at each turn of `empty_bodies`.
use Rattle.std.proofs.Common.{◌≡◌, [], map, take}
use Rattle.agg_tables.specs.Tables.{fold_over}
use Rattle.agg_tables.proofs.folds.empty_bodies.Given as goal

-- the folds so far have a body
abbrev pub invariant-loop-fold : goal.invariant-loop-fold
invariant-loop-fold l = l.bodies.items ≡ map (fold_over l.catalog l.declared []) (take l.fold-index l.folds)
