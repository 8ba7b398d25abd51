-- Each job in turn is ended, and the jobs after it stay out.
use Rattle.std.proofs.Common.{◌≡◌, ◌∙◌, ◌+◌, ◌++◌, List, Option, ap, refl, sym, subst, arith, false, length, map, suc, true}
use Rattle.std.proofs.lemmas.List.Elements.{All-head}
use Rattle.std.proofs.lemmas.Bool.{both_ways}
use Rattle.std.specs.Prelude.{option_to_list, sum_by}
use Rattle.std.specs.Vec.Iter.{into_iter_items, into_iter_len}
use Rattle.olap_meaning.specs.declared.tables.Setting.{Setting}
use Rattle.segment_load.specs.Loads.{JobOf, job_cost}
use Rattle.cache_manager.specs.Jobs.{IsJobOf}
use Rattle.manager_desk.specs.Ends.{EndsJobs, done_of}
use Rattle.manager_desk.specs.Keeping.{IsCount}
use Rattle.manager_desk.proofs.Ending.{IsEnding, all_closed, all_ended, none_ended, none_left, one_ended, whole_done}
use Rattle.manager_desk.proofs.asking.end_loads.Goals as goal

pub loop-job-init : goal.loop-job-init
loop-job-init g c =
    let whole = c.into_iter-rest.ensures.rest ∙ c.into_vec.ensures in
    record {
      long = c.into_iter-rest.ensures.len ∙ c.into_vec.result.ok.0 ∙ sym (ap (λ (xs : List JobOf). length xs) c.into_iter-rest.ensures.rest);
      ending =
          subst (λ (xs : List JobOf). IsEnding c.args.manager.now c.args.manager.now c.args.jobs xs true c.args.steps.now c.args.steps.now c.args.read.now) (sym whole)
          (none_ended c.args.manager.now c.args.jobs c.args.steps.now c.args.read.now c.requires.jobs c.requires.seats c.requires.different c.requires.complete c.requires.count);
    }

pub end_load-run-requires : goal.end_load-run-requires
end_load-run-requires g c =
    let left = c.next.ensures.items ∙ ap (λ (o : Option JobOf). option_to_list o ++ into_iter_items c.next.new.self) c.in-Some.is in
    let so_far = subst (λ (xs : List JobOf). IsEnding c.args.manager.now c.loop-job.manager c.args.jobs xs c.loop-job.run c.args.steps.now c.loop-job.steps c.loop-job.read) left c.loop-job.invariant.ending in
    record {
      job = All-head (IsJobOf c.loop-job.manager) c.in-Some.job (into_iter_items c.next.new.self) so_far.are;
      seat = All-head (λ (job : JobOf). job.who.seat ≡ 1) c.in-Some.job (into_iter_items c.next.new.self) so_far.seats;
      count = subst (λ (s : Setting). IsCount s.catalog c.loop-job.manager.entries c.loop-job.read) (sym so_far.setting) so_far.count;
    }

pub loop-job-preserved : goal.loop-job-preserved
loop-job-preserved g c =
    let left = c.next.ensures.items ∙ ap (λ (o : Option JobOf). option_to_list o ++ into_iter_items c.next.new.self) c.in-Some.is in
    let so_far = subst (λ (xs : List JobOf). IsEnding c.args.manager.now c.loop-job.manager c.args.jobs xs c.loop-job.run c.args.steps.now c.loop-job.steps c.loop-job.read) left c.loop-job.invariant.ending in
    let fewer : into_iter_len c.next.new.self + 1 ≡ into_iter_len c.loop-job.rest = c.in-Some.ensures.len in
    let count : length (into_iter_items c.loop-job.rest) ≡ suc (length (into_iter_items c.next.new.self)) = ap (λ (xs : List JobOf). length xs) left in
    record {
      long = omega (arith, fewer, count, c.loop-job.invariant.long);
      ending =
          one_ended c.jobs_stay.ensures c.args.manager.now c.loop-job.manager c.end_load-run.new.manager c.args.jobs (into_iter_items c.next.new.self) c.in-Some.job c.loop-job.run c.end_load-run.result c.args.steps.now c.loop-job.steps c.end_load-run.new.steps c.loop-job.read c.end_load-run.new.read so_far
          c.end_load-run.ensures.setting c.end_load-run.ensures.entry c.steps_are_legal.ensures c.end_load-run.ensures.count c.end_load-run.ensures.failed c.end_load-run.ensures.cost c.end_load-run.ensures.at_least c.end_load-run.ensures.at_most;
    }

pub destroy_empty-requires : goal.destroy_empty-requires
destroy_empty-requires g c =
    let none = none_left (into_iter_len c.loop-job.rest) (λ some. both_ways false refl (c.in_default.ensures.variant.1 some)) in
    omega (arith, none, c.in_default.ensures.len)

pub returns : goal.returns
returns g c =
    let none = none_left (into_iter_len c.loop-job.rest) (λ some. both_ways false refl (c.in_default.ensures.variant.1 some)) in
    let is =
    all_ended c.args.manager.now c.loop-job.manager c.args.jobs (into_iter_items c.loop-job.rest) c.loop-job.run c.args.steps.now c.loop-job.steps c.loop-job.read (into_iter_len c.loop-job.rest) c.loop-job.invariant.long none c.loop-job.invariant.ending in
    let whole = whole_done c.args.manager.now c.loop-job.manager c.args.jobs c.loop-job.run c.args.steps.now c.loop-job.steps c.loop-job.read is in
    let costs : sum_by job_cost is.done ≡ sum_by job_cost c.args.jobs = ap (λ (js : List JobOf). sum_by job_cost js) whole in
    record {
      setting = is.setting;
      ended = subst (λ (js : List JobOf). EndsJobs c.args.manager.now.entries c.loop-job.manager.entries js) whole is.ended;
      closed = all_closed c.loop-job.manager.entries is.complete;
      delivered = λ all. is.delivered all ∙ ap (λ (js : List JobOf). c.args.manager.now.entries ++ map done_of js) whole;
      count = is.count;
      cost = λ all. let read = is.cost all in omega (arith, read, costs);
      at_least = is.at_least;
      at_most = omega (arith, is.at_most, costs);
    }
