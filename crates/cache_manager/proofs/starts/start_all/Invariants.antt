-- What holds at each turn of `start_all`.
use Rattle.std.proofs.Common.{◌≡◌, ◌+◌, ◌++◌, length, map}
use Rattle.std.specs.Vec.{vec_capacity, vec_len}
use Rattle.history_core.specs.Entries.{entry_of}
use Rattle.cache_manager.specs.Plans.{flight_for}
use Rattle.cache_manager.proofs.starts.start_all.Given as goal

-- the loads so far are started
abbrev pub invariant-loop-planned : goal.invariant-loop-planned
invariant-loop-planned l = record {
  setting : l.history.setting ≡ l.initial.history.setting;
  entries : l.history.entries ≡ l.initial.history.entries ++ map (λ planned. entry_of planned.start) l.yielded;
  spare : l.history.spare + length l.yielded ≡ l.initial.history.spare;
  flights : l.flights.flights ≡ l.initial.flights.flights ++ map (λ planned. flight_for l.place planned.flight) l.yielded;
  places : l.flights.places + length l.yielded ≡ l.initial.flights.places;
  jobs : l.jobs.items ≡ l.initial.jobs.items ++ map (λ planned. planned.job) l.yielded;
  jobs_room : vec_capacity l.jobs ≡ vec_capacity l.initial.jobs;
  jobs_held : vec_len l.jobs ≡ vec_len l.initial.jobs + length l.yielded;
}
