-- A job that is run is taken out and its load delivered, or it is put back.
use Rattle.std.proofs.Common.{◌≡◌, ◌∙◌, ◌<◌, ◌==◌, ◌||◌, ◌++◌, ◌∷◌, [], ℕ, List, false, refl, sym, ap, subst, arith, length, map}
use Rattle.std.specs.Prelude.{insert, remove}
use Rattle.std.proofs.lemmas.List.Elements.{All-get_or}
use Rattle.std.proofs.lemmas.List.{length-map}
use Rattle.olap_meaning.specs.declared.cells.Who.{Who}
use Rattle.olap_meaning.specs.History.{Entry, Done}
use Rattle.segment_load.specs.Loads.{JobOf}
use Rattle.cache_manager.specs.Jobs.{IsJobOf}
use Rattle.manager_calls.proofs.Running.{ending_is, goes_on, map_remove, put_back, rows_are, run_ended, run_later, stays}
use Rattle.manager_calls.proofs.calls.run_delivery.Goals as goal

pub returns-then-job-len-clause-run : goal.returns-then-job-len-clause-run
returns-then-job-len-clause-run g c n run = run_later c.args.manager.now c.args.jobs.now.items n run

pub returns-then-job-len-clause-reply : goal.returns-then-job-len-clause-reply
returns-then-job-len-clause-reply g c n = let long = length-map c.args.jobs.now.items (λ job. job.load) in omega (arith, long, c.if-job-len.true, c.len.ensures, c.args.jobs.now.ok.0)

pub returns-then-job-len-clause-next : goal.returns-then-job-len-clause-next
returns-then-job-len-clause-next g c n = stays c.args.manager.now _ _

pub returns-in-Ok-clause-run : goal.returns-in-Ok-clause-run
returns-in-Ok-clause-run g c n run =
    let within : c.args.job < length c.args.jobs.now.items = omega (arith, c.if-job-len.false, c.len.ensures, c.args.jobs.now.ok.0) in
    rw c.remove.ensures.items
    (run_ended c.args.manager.now c.deliver.new.self _ c.deliver.ensures.setting c.deliver.ensures.entry c.steps_are_legal.ensures c.jobs_stay.ensures c.args.jobs.now.items c.args.job n c.remove.result within c.remove.ensures.value
    (λ j. ap (λ (m : ℕ). (m == j) || false) c.in-Ok.ensures.load) refl run)

pub returns-in-Ok-clause-reply : goal.returns-in-Ok-clause-reply
returns-in-Ok-clause-reply g c n =
    let long = length-map c.args.jobs.now.items (λ job. job.load) in
    let within : c.args.job < length c.args.jobs.now.items = omega (arith, c.if-job-len.false, c.len.ensures, c.args.jobs.now.ok.0) in
    omega (arith, long, within)

pub returns-in-Ok-clause-next : goal.returns-in-Ok-clause-next
returns-in-Ok-clause-next g c n =
    let within : c.args.job < length c.args.jobs.now.items = omega (arith, c.if-job-len.false, c.len.ensures, c.args.jobs.now.ok.0) in
    let ends = ending_is c.args.manager.now c.args.jobs.now.items n c.args.job c.remove.result Done c.requires.jobs within c.remove.ensures.value in
    let same : Done c.in-Ok.delivery.who c.in-Ok.delivery.load ≡ Done c.remove.result.who c.remove.result.load =
    ap (λ (who : Who). Done who c.in-Ok.delivery.load) c.in-Ok.ensures.who ∙ ap (λ (load : ℕ). Done c.remove.result.who load) c.in-Ok.ensures.load in
    goes_on c.args.manager.now c.deliver.new.self _ _ _ _ c.deliver.ensures.setting
    (c.deliver.ensures.entry ∙ ap (λ (e : Entry). c.args.manager.now.entries ++ e ∷ []) same ∙ ap (λ (es : List Entry). c.args.manager.now.entries ++ es) (sym ends))
    (ap (map (λ job. job.load)) c.remove.ensures.items ∙ map_remove (λ job. job.load) c.args.jobs.now.items c.args.job)

pub returns-in-Err-clause-run : goal.returns-in-Err-clause-run
returns-in-Err-clause-run g c n run =
    let within : c.args.job < length c.args.jobs.now.items = omega (arith, c.if-job-len.false, c.len.ensures, c.args.jobs.now.ok.0) in
    let same : c.in-Err.back ≡ c.remove.result = c.in-Err.ensures.err in
    let back : c.insert.new.self.items ≡ c.args.jobs.now.items =
    (rw c.unwrap.ensures at c.insert.ensures.items) ∙ ap (λ (jobs : List JobOf). insert jobs c.args.job c.in-Err.back) c.remove.ensures.items ∙ ap (λ (job : JobOf). insert (remove c.args.jobs.now.items c.args.job) c.args.job job) same
    ∙ put_back c.args.jobs.now.items c.args.job c.remove.result within c.remove.ensures.value in
    rw back (run_later c.args.manager.now c.args.jobs.now.items n run)

pub returns-in-Err-clause-reply : goal.returns-in-Err-clause-reply
returns-in-Err-clause-reply g c n =
    let long = length-map c.args.jobs.now.items (λ job. job.load) in
    let within : c.args.job < length c.args.jobs.now.items = omega (arith, c.if-job-len.false, c.len.ensures, c.args.jobs.now.ok.0) in
    omega (arith, long, within)

pub returns-in-Err-clause-next : goal.returns-in-Err-clause-next
returns-in-Err-clause-next g c n =
    let within : c.args.job < length c.args.jobs.now.items = omega (arith, c.if-job-len.false, c.len.ensures, c.args.jobs.now.ok.0) in
    let same : c.in-Err.back ≡ c.remove.result = c.in-Err.ensures.err in
    let back : c.insert.new.self.items ≡ c.args.jobs.now.items =
    (rw c.unwrap.ensures at c.insert.ensures.items) ∙ ap (λ (jobs : List JobOf). insert jobs c.args.job c.in-Err.back) c.remove.ensures.items ∙ ap (λ (job : JobOf). insert (remove c.args.jobs.now.items c.args.job) c.args.job job) same
    ∙ put_back c.args.jobs.now.items c.args.job c.remove.result within c.remove.ensures.value in
    rw back (stays c.args.manager.now _ _)

pub returns-then-job-len-clause-at_least : goal.returns-then-job-len-clause-at_least
returns-then-job-len-clause-at_least g c n = omega arith

pub returns-then-job-len-clause-at_most : goal.returns-then-job-len-clause-at_most
returns-then-job-len-clause-at_most g c n = omega arith

pub returns-in-Ok-clause-at_least : goal.returns-in-Ok-clause-at_least
returns-in-Ok-clause-at_least g c n =
    let within : c.args.job < length c.args.jobs.now.items = omega (arith, c.if-job-len.false, c.len.ensures, c.args.jobs.now.ok.0) in
    let rows = rows_are c.args.manager.now c.args.jobs.now.items n c.args.job c.remove.result c.requires.jobs within c.remove.ensures.value in
    omega (arith, rows, c.in-Ok.ensures.cost)

pub returns-in-Ok-clause-at_most : goal.returns-in-Ok-clause-at_most
returns-in-Ok-clause-at_most g c n =
    let within : c.args.job < length c.args.jobs.now.items = omega (arith, c.if-job-len.false, c.len.ensures, c.args.jobs.now.ok.0) in
    let rows = rows_are c.args.manager.now c.args.jobs.now.items n c.args.job c.remove.result c.requires.jobs within c.remove.ensures.value in
    omega (arith, rows, c.in-Ok.ensures.cost)

pub returns-in-Err-clause-at_least : goal.returns-in-Err-clause-at_least
returns-in-Err-clause-at_least g c n = omega (arith, c.run_load.ensures.at_least)

pub returns-in-Err-clause-at_most : goal.returns-in-Err-clause-at_most
returns-in-Err-clause-at_most g c n =
    let within : c.args.job < length c.args.jobs.now.items = omega (arith, c.if-job-len.false, c.len.ensures, c.args.jobs.now.ok.0) in
    let rows = rows_are c.args.manager.now c.args.jobs.now.items n c.args.job c.remove.result c.requires.jobs within c.remove.ensures.value in
    omega (arith, rows, c.run_load.ensures.at_most)

pub deliver-requires : goal.deliver-requires
deliver-requires g c =
    let within : c.args.job < length c.args.jobs.now.items = omega (arith, c.if-job-len.false, c.len.ensures, c.args.jobs.now.ok.0) in
    let is : IsJobOf c.args.manager.now c.remove.result = subst (IsJobOf c.args.manager.now) (sym c.remove.ensures.value) (All-get_or (IsJobOf c.args.manager.now) c.args.jobs.now.items c.args.job c.remove.result within c.requires.jobs) in
    rw (c.in-Ok.ensures.who, c.in-Ok.ensures.load) (record { own = c.own_bodies.ensures c.args.manager.now c.remove.result c.in-Ok.delivery.body is c.in-Ok.ensures.body })
