-- What holds at each turn of `evicted_after`.
use Rattle.std.proofs.Common.{◌≡◌, drop, take}
use Rattle.std.specs.Prelude.{filter_map}
use Rattle.manager_calls.specs.Runs.{evicted_load}
use Rattle.manager_calls.proofs.looks.evicted_after.Given as goal

-- the loads are those that were evicted so far
abbrev pub invariant-loop-place : goal.invariant-loop-place
invariant-loop-place l = l.evicted.items ≡ filter_map evicted_load (drop l.position (take l.place l.history.entries))
