-- To be shown what is kept is a call of the run, and leaves the jobs that are out.
use Rattle.std.proofs.Common.{◌+◌, refl, sym, subst, arith}
use Rattle.std.proofs.lemmas.Bool.{and_from, lt-ltb}
use Rattle.history_core.specs.Cache.{CacheOf}
use Rattle.manager_calls.specs.Runs.{IsRun}
use Rattle.manager_calls.proofs.Running.{next_call, run_later, run_on}
use Rattle.manager_calls.proofs.calls.run_show.Goals as goal

pub show-requires : goal.show-requires
show-requires c = record { call = next_call c.args.who c.args.manager.now.entries c.requires.run.below }

pub returns-in-Ok-clause-run : goal.returns-in-Ok-clause-run
returns-in-Ok-clause-run c =
    run_on c.args.manager.now c.show.new.self _ c.show.ensures.setting c.in-Ok.ensures.entry c.steps_are_legal.ensures c.jobs_stay.ensures c.args.jobs.now c.args.who.call (λ k d l. refl) (and_from _ _ (lt-ltb _ _ (omega arith)) refl) c.requires.run

pub returns-in-Err-clause-run : goal.returns-in-Err-clause-run
returns-in-Err-clause-run c = subst (λ (k : CacheOf). IsRun k c.args.jobs.now (c.args.who.call + 1)) (sym c.in-Err.ensures.unchanged) (run_later c.args.manager.now c.args.jobs.now c.args.who.call c.requires.run)
