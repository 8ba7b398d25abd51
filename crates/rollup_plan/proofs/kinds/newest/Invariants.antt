-- None so far is newer.
use Rattle.std.proofs.Common.{◌≤◌, take}
use Rattle.std.specs.Prelude.{All, Contains}
use Rattle.cache_flush.specs.Loads.{kept_of}
use Rattle.rollup_plan.specs.Picks.{lent}
use Rattle.rollup_plan.proofs.kinds.newest.Given as goal

abbrev pub invariant-loop-one : goal.invariant-loop-one
invariant-loop-one l = record {
  member : Contains (lent l.kept) (kept_of l.best);
  newest : All (λ one. one.version ≤ l.best.version) (take l.one-index (lent l.kept));
}
