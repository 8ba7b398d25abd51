-- What holds at each turn of `headers_of`.
use Rattle.std.proofs.Common.{◌≡◌, map, take}
use Rattle.manager_calls.proofs.looks.headers_of.Given as goal

-- the headers are those of the jobs so far
abbrev pub invariant-loop-job : goal.invariant-loop-job
invariant-loop-job l = l.headers.items ≡ map (λ job. job.header) (take l.job-index l.jobs)
