-- Those so far.
use Rattle.std.proofs.Common.{◌≡◌, filter, take}
use Rattle.cache_flush.specs.Loads.{kept_of}
use Rattle.rollup_plan.specs.Picks.{are_kin, lent}
use Rattle.rollup_plan.proofs.kinds.kin_of.Given as goal

abbrev pub invariant-loop-one : goal.invariant-loop-one
invariant-loop-one l = lent l.kin.items ≡ filter (are_kin (kept_of l.first)) (take l.one-index (lent l.kept))
