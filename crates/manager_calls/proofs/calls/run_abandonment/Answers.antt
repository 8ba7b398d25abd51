-- A job that is given up is taken out, and its load is dropped.
use Rattle.std.proofs.Common.{◌∙◌, ◌<◌, ◌++◌, refl, sym, ap, arith, length, map}
use Rattle.std.proofs.lemmas.List.{length-map}
use Rattle.olap_meaning.specs.History.{Drop}
use Rattle.manager_calls.proofs.Running.{ending_is, goes_on, map_remove, run_ended, run_later, stays}
use Rattle.manager_calls.proofs.calls.run_abandonment.Goals as goal

pub returns-then-job-len-clause-run : goal.returns-then-job-len-clause-run
returns-then-job-len-clause-run c n run = run_later c.args.manager.now c.args.jobs.now.items n run

pub returns-then-job-len-clause-reply : goal.returns-then-job-len-clause-reply
returns-then-job-len-clause-reply c n = let long = length-map c.args.jobs.now.items (λ job. job.load) in omega (arith, long, c.if-job-len.true, c.len.ensures, c.args.jobs.now.ok.0)

pub returns-then-job-len-clause-next : goal.returns-then-job-len-clause-next
returns-then-job-len-clause-next c n = stays c.args.manager.now _ _

pub returns-clause-run : goal.returns-clause-run
returns-clause-run c n run =
    let within : c.args.job < length c.args.jobs.now.items = omega (arith, c.if-job-len.false, c.len.ensures, c.args.jobs.now.ok.0) in
    rw c.remove.ensures.items
    (run_ended c.args.manager.now c.abandon.new.self _ c.abandon.ensures.setting c.abandon.ensures.entry c.steps_are_legal.ensures c.jobs_stay.ensures c.args.jobs.now.items c.args.job n c.remove.result within c.remove.ensures.value
    (λ j. refl) refl run)

pub returns-clause-reply : goal.returns-clause-reply
returns-clause-reply c n =
    let long = length-map c.args.jobs.now.items (λ job. job.load) in
    let within : c.args.job < length c.args.jobs.now.items = omega (arith, c.if-job-len.false, c.len.ensures, c.args.jobs.now.ok.0) in
    omega (arith, long, within)

pub returns-clause-next : goal.returns-clause-next
returns-clause-next c n =
    let within : c.args.job < length c.args.jobs.now.items = omega (arith, c.if-job-len.false, c.len.ensures, c.args.jobs.now.ok.0) in
    let ends = ending_is c.args.manager.now c.args.jobs.now.items n c.args.job c.remove.result Drop c.requires.jobs within c.remove.ensures.value in
    goes_on c.args.manager.now c.abandon.new.self _ _ _ _ c.abandon.ensures.setting (c.abandon.ensures.entry ∙ ap (λ (es : _). c.args.manager.now.entries ++ es) (sym ends))
    (ap (map (λ job. job.load)) c.remove.ensures.items ∙ map_remove (λ job. job.load) c.args.jobs.now.items c.args.job)
