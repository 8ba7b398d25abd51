-- What holds at each turn of `fold_each`.
use Rattle.std.proofs.Common.{◌≡◌, ◌++◌, take}
use Rattle.rollup_plan.specs.Rolls.{folds_at}
use Rattle.rollup_plan.proofs.rolls.fold_each.Given as goal

-- the tallies have taken the parts so far
abbrev pub invariant-loop-i : goal.invariant-loop-i
invariant-loop-i g l = l.tallies ≡ record l.fn.tallies { folds = l.fn.tallies.folds ++ folds_at (g.S.Shelf.loads l.shelf) l.split (take l.i l.parts) }
