-- A table that is built from a version and installed is a call of the run, and leaves the jobs that are out.
use Rattle.std.proofs.Common.{◌+◌, refl, sym, subst, arith}
use Rattle.std.proofs.lemmas.Bool.{and_from, lt-ltb}
use Rattle.history_core.specs.Cache.{CacheOf}
use Rattle.manager_calls.specs.Runs.{IsRun}
use Rattle.manager_calls.proofs.Running.{next_call, run_later, run_on}
use Rattle.manager_calls.proofs.calls.run_install.Goals as goal

pub install-requires-clause-call : goal.install-requires-clause-call
install-requires-clause-call g c = next_call c.args.who c.args.manager.now.entries c.requires.run.below

pub returns-then-version-table_version-clause-run : goal.returns-then-version-table_version-clause-run
returns-then-version-table_version-clause-run g c = run_later c.args.manager.now c.args.jobs.now c.args.who.call c.requires.run

pub returns-in-Err-clause-run : goal.returns-in-Err-clause-run
returns-in-Err-clause-run g c = run_later c.args.manager.now c.args.jobs.now c.args.who.call c.requires.run

pub returns-in-Ok-install-clause-run : goal.returns-in-Ok-install-clause-run
returns-in-Ok-install-clause-run g c =
    run_on c.args.manager.now c.install.new.self _ c.install.ensures.setting c.in-Ok-install.ensures.entry c.steps_are_legal.ensures c.jobs_stay.ensures c.args.jobs.now c.args.who.call (λ k d l. refl) (and_from _ _ (lt-ltb _ _ (omega arith)) refl) c.requires.run

pub returns-in-Err-install-clause-run : goal.returns-in-Err-install-clause-run
returns-in-Err-install-clause-run g c = subst (λ (k : CacheOf). IsRun k c.args.jobs.now (c.args.who.call + 1)) (sym c.in-Err-install.ensures.unchanged) (run_later c.args.manager.now c.args.jobs.now c.args.who.call c.requires.run)
