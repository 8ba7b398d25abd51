-- What holds at each turn of `end_loads`, and what falls at each of them.
use Rattle.std.proofs.Common.{◌≡◌, length}
use Rattle.std.specs.Vec.Iter.{into_iter_items, into_iter_len}
use Rattle.manager_desk.proofs.Ending.{IsEnding}
use Rattle.manager_desk.proofs.asking.end_loads.Given as goal

-- the loads so far are ended, and the others are out
abbrev pub invariant-loop-job : goal.invariant-loop-job
invariant-loop-job g l = record {
  long : into_iter_len l.rest ≡ length (into_iter_items l.rest);
  ending : IsEnding l.initial.manager l.manager l.fn.jobs (into_iter_items l.rest) l.run l.initial.steps l.steps l.read;
}

abbrev pub decreases-loop-job : goal.decreases-loop-job
decreases-loop-job g l = into_iter_len l.rest
