-- Where a run ends once its calls are made and the jobs that are out are abandoned.
use Rattle.std.proofs.Common.{◌∙◌, ap}
use Rattle.manager_calls.specs.Runs.{Stage, ended}
use Rattle.manager_calls.proofs.Running.{ended_is}
use Rattle.manager_calls.proofs.calls.replies_to.Goals as goal

pub returns-in-Ok-clause-entries : goal.returns-in-Ok-clause-entries
returns-in-Ok-clause-entries g c =
    let run = c.make_calls-made.ensures.run in
    let stage = c.in-Ok.ensures.stage in
    ended_is c.make_calls-made.new.manager c.abandon_all.new.manager c.make_calls-made.new.jobs.items stage.0 run.1.jobs_are c.abandon_all.ensures.setting c.abandon_all.ensures.entries ∙ ap (λ (s : Stage). ended s) stage.1
