-- An append is a call of the run, admitted or refused, and leaves the jobs that are out.
use Rattle.std.proofs.Common.{◌∙◌, ◌+◌, refl, sym, ap, subst, arith, length, map}
use Rattle.std.proofs.lemmas.Bool.{and_from, eq-eqb, lt-ltb}
use Rattle.std.proofs.lemmas.List.{length_push}
use Rattle.olap_meaning.specs.History.{Entry, Append, version}
use Rattle.olap_meaning.proofs.Growing.{version_grows}
use Rattle.history_core.specs.Cache.{CacheOf}
use Rattle.manager_calls.specs.Runs.{IsRun}
use Rattle.manager_calls.proofs.Running.{goes_on, next_call, run_later, run_on, stays}
use Rattle.manager_calls.proofs.calls.run_append.Goals as goal

pub append-requires-clause-call : goal.append-requires-clause-call
append-requires-clause-call c = next_call c.args.who c.args.manager.now.entries c.requires.run.below

pub returns-in-Ok-clause-run : goal.returns-in-Ok-clause-run
returns-in-Ok-clause-run c =
    run_on c.args.manager.now c.append.new.self _ c.append.ensures.setting c.in-Ok.ensures.entry c.steps_are_legal.ensures c.jobs_stay.ensures c.args.jobs.now c.args.who.call (λ k d l. refl) (and_from _ _ (lt-ltb _ _ (omega arith)) refl) c.requires.run

pub returns-in-Ok-clause-reply : goal.returns-in-Ok-clause-reply
returns-in-Ok-clause-reply c =
    let entry : Entry = Append c.args.who c.args.cube (version c.args.manager.now.entries c.args.cube + 1) c.args.batch.rows in (
      c.in-Ok.ensures.admitted,
      c.in-Ok.ensures.position ∙ ap length c.in-Ok.ensures.entry ∙ length_push c.args.manager.now.entries entry,
      c.in-Ok.ensures.version ∙ ap (λ (es : _). version es c.args.cube) c.in-Ok.ensures.entry ∙ version_grows c.args.manager.now.entries entry c.args.cube ∙ rw (eq-eqb c.args.cube c.args.cube refl) refl,
    )

pub returns-in-Ok-clause-next : goal.returns-in-Ok-clause-next
returns-in-Ok-clause-next c = goes_on c.args.manager.now c.append.new.self _ _ _ _ c.append.ensures.setting c.in-Ok.ensures.entry refl

pub returns-in-Err-clause-run : goal.returns-in-Err-clause-run
returns-in-Err-clause-run c = subst (λ (k : CacheOf). IsRun k c.args.jobs.now (c.args.who.call + 1)) (sym c.in-Err.ensures.unchanged) (run_later c.args.manager.now c.args.jobs.now c.args.who.call c.requires.run)

pub returns-in-Err-clause-reply : goal.returns-in-Err-clause-reply
returns-in-Err-clause-reply c = c.in-Err.ensures.fault

pub returns-in-Err-clause-next : goal.returns-in-Err-clause-next
returns-in-Err-clause-next c = ap (λ (k : CacheOf). record { cache = k; out = map (λ job. job.load) c.args.jobs.now; number = c.args.who.call + 1 }) c.in-Err.ensures.unchanged ∙ stays c.args.manager.now _ _
