-- A table that is built and installed is a call of the run, and leaves the jobs that are out.
use Rattle.std.proofs.Common.{◌+◌, refl, sym, subst, arith}
use Rattle.std.proofs.lemmas.Bool.{and_from, lt-ltb}
use Rattle.history_core.specs.Cache.{CacheOf}
use Rattle.manager_calls.specs.Runs.{IsRun}
use Rattle.manager_calls.proofs.Running.{next_call, run_later, run_on}
use Rattle.manager_calls.proofs.calls.run_build.Goals as goal

pub build_agg-requires-clause-call : goal.build_agg-requires-clause-call
build_agg-requires-clause-call g c = next_call c.args.who c.args.manager.now.entries c.requires.run.below

pub returns-in-Ok-clause-run : goal.returns-in-Ok-clause-run
returns-in-Ok-clause-run g c =
    run_on c.args.manager.now c.build_agg.new.self _ c.build_agg.ensures.setting c.in-Ok.ensures.entry c.steps_are_legal.ensures c.jobs_stay.ensures c.args.jobs.now c.args.who.call (λ k d l. refl) (and_from _ _ (lt-ltb _ _ (omega arith)) refl) c.requires.run

pub returns-in-Err-clause-run : goal.returns-in-Err-clause-run
returns-in-Err-clause-run g c = subst (λ (k : CacheOf). IsRun k c.args.jobs.now (c.args.who.call + 1)) (sym c.in-Err.ensures.unchanged) (run_later c.args.manager.now c.args.jobs.now c.args.who.call c.requires.run)
