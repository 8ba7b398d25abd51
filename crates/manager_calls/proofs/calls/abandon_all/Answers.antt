-- Each job that is out may be abandoned, and those that are left stay the cache's.
use Rattle.std.proofs.Common.{◌≡◌, ◌∙◌, ◌++◌, ◌∷◌, ◌||◌, [], Bool, List, All, false, true, not, sym, ap, subst, arith, length, map}
use Rattle.std.specs.Vec.Iter.{into_iter_items}
use Rattle.std.proofs.lemmas.Bool.{and_parts, not-true}
use Rattle.std.proofs.lemmas.List.{append_assoc}
use Rattle.std.proofs.lemmas.List.Elements.{All-head, All-tail}
use Rattle.olap_meaning.specs.Covering.{among}
use Rattle.olap_meaning.specs.History.{Entry}
use Rattle.segment_load.specs.Loads.{JobOf}
use Rattle.cache_manager.specs.Jobs.{IsJobOf, apart}
use Rattle.manager_calls.specs.Runs.{drop_of}
use Rattle.manager_calls.proofs.Numbers.{other_loads}
use Rattle.manager_calls.proofs.Running.{jobs_stay}
use Rattle.manager_calls.proofs.calls.abandon_all.Goals as goal

pub abandon-requires : goal.abandon-requires
abandon-requires c =
    let jobs : All (IsJobOf c.loop-job.manager) (c.in-Some.job ∷ into_iter_items c.next.new.self) = subst (λ (js : List JobOf). All (IsJobOf c.loop-job.manager) js) c.in-Some.ensures.cases.0 c.loop-job.invariant.jobs in
    let is : IsJobOf c.loop-job.manager c.in-Some.job = All-head (IsJobOf c.loop-job.manager) c.in-Some.job (into_iter_items c.next.new.self) jobs in
    record { own = (is.load, is.flies) }

pub loop-job-preserved : goal.loop-job-preserved
loop-job-preserved c =
    let now : into_iter_items c.loop-job.rest ≡ c.in-Some.job ∷ into_iter_items c.next.new.self = c.in-Some.ensures.cases.0 in
    let jobs : All (IsJobOf c.loop-job.manager) (c.in-Some.job ∷ into_iter_items c.next.new.self) = subst (λ (js : List JobOf). All (IsJobOf c.loop-job.manager) js) now c.loop-job.invariant.jobs in
    let differ : apart (map (λ (job : JobOf). job.load) (c.in-Some.job ∷ into_iter_items c.next.new.self)) ≡ true = subst (λ (js : List JobOf). apart (map (λ (job : JobOf). job.load) js) ≡ true) now c.loop-job.invariant.different in
    let parts = and_parts (not (among (map (λ (job : JobOf). job.load) (into_iter_items c.next.new.self)) c.in-Some.job.load)) (apart (map (λ (job : JobOf). job.load) (into_iter_items c.next.new.self))) differ in
    let others = other_loads c.in-Some.job.load (into_iter_items c.next.new.self) (not-true _ parts.0) in
    let counted = ap length now in
    let fewer = c.in-Some.ensures.cases.1 in
    record {
      setting = c.abandon.ensures.setting ∙ c.loop-job.invariant.setting;
      held = omega (arith, counted, fewer, c.loop-job.invariant.held);
      jobs =
          jobs_stay c.loop-job.manager c.abandon.new.self _ c.abandon.ensures.setting c.abandon.ensures.entry c.steps_are_legal.ensures c.jobs_stay.ensures (into_iter_items c.next.new.self)
          (λ k d l. ap (λ (b : Bool). b || false) (others k d l)) (All-tail (IsJobOf c.loop-job.manager) c.in-Some.job (into_iter_items c.next.new.self) jobs);
      different = parts.1;
      entries =
          ap (λ (es : List Entry). es ++ map drop_of (into_iter_items c.next.new.self)) c.abandon.ensures.entry ∙ append_assoc c.loop-job.manager.entries (drop_of c.in-Some.job ∷ []) (map drop_of (into_iter_items c.next.new.self))
          ∙ ap (λ (js : List JobOf). c.loop-job.manager.entries ++ map drop_of js) (sym now) ∙ c.loop-job.invariant.entries;
    }
