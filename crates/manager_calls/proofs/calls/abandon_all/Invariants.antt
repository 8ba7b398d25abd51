-- What holds at each turn of `abandon_all`.
use Rattle.std.proofs.Common.{◌≡◌, ◌++◌, All, IsTrue, length, map}
use Rattle.std.specs.Vec.Iter.{into_iter_items, into_iter_len}
use Rattle.cache_manager.specs.Jobs.{IsJobOf, apart}
use Rattle.manager_calls.specs.Runs.{drop_of}
use Rattle.manager_calls.proofs.calls.abandon_all.Given as goal

-- each turn uses up a job
abbrev pub decreases-loop-job : goal.decreases-loop-job
decreases-loop-job l = into_iter_len l.rest

-- the jobs that are left are the cache's, of different loads, and the history with their ends is what it is to be
abbrev pub invariant-loop-job : goal.invariant-loop-job
invariant-loop-job l = record {
  setting : l.manager.setting ≡ l.fn.manager.setting;
  held : into_iter_len l.rest ≡ length (into_iter_items l.rest);
  jobs : All (IsJobOf l.manager) (into_iter_items l.rest);
  different : IsTrue (apart (map (λ job. job.load) (into_iter_items l.rest)));
  entries : l.manager.entries ++ map drop_of (into_iter_items l.rest) ≡ l.fn.manager.entries ++ map drop_of l.fn.jobs.items;
}
