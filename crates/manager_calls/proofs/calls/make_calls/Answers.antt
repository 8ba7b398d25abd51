-- That `make_calls` keeps what holds at each turn, and what it has done where it stops.
use Rattle.std.proofs.Common.{◌∙◌, ℕ, arith, refl, sym, ap, subst}
use Rattle.std.proofs.lemmas.Iterator.Adapters.{YieldsList-from_vec}
use Rattle.std.proofs.lemmas.Iterator.Consumers.{YieldsList-so_far, YieldsList-turn}
use Rattle.std.proofs.lemmas.Result.{err_from_is_err_and}
use Rattle.segment_header.specs.contracts.widener.WidenerAllowsValues.TheImpl.{answers-value}
use Rattle.segment_header.specs.Widening.{Widened}
use Rattle.manager_calls.specs.Runs.{Stage, next_stage, rows_delivered, rows_tried, stage_of}
use Rattle.manager_calls.proofs.Running.{MayFollow, replies_more, rows_more, stopped}
use Rattle.manager_calls.proofs.calls.make_calls.Goals as goal

pub loop-call-preserved : goal.loop-call-preserved
loop-call-preserved g c =
    let was = c.loop-call.invariant.stage in
    let more = replies_more (Widened ((answers-value g.dyn-1).it c.args.widener.now)) _ c.loop-call.yielded c.loop-call.replies c.in-Some.call c.run_call.result c.loop-call.invariant.replies (subst (λ (s : Stage). MayFollow (Widened ((answers-value g.dyn-1).it c.args.widener.now)) s c.in-Some.call c.run_call.result) was (c.run_call.ensures.reply, c.run_call.ensures.headers)) in
    record {
      run = rw c.in_ok-number.ensures c.run_call.ensures.run;
      stage =
          ap (λ (n : ℕ). stage_of c.run_call.new.manager c.run_call.new.jobs.items n) c.in_ok-number.ensures ∙ c.run_call.ensures.next ∙ ap (λ (s : Stage). next_stage s c.in-Some.call c.run_call.result) was
          ∙ rw c.in_ok-push.ensures.ok (sym more.1);
      setting = ap (λ (s : Stage). s.cache.setting) c.run_call.ensures.next ∙ c.loop-call.invariant.setting;
      replies = rw c.in_ok-push.ensures.ok more.0;
      at_least =
          let rows = rows_more (Widened ((answers-value g.dyn-1).it c.args.widener.now)) rows_delivered _ c.loop-call.yielded c.loop-call.replies c.in-Some.call c.run_call.result c.loop-call.invariant.replies in
          let one = ap (λ (s : Stage). rows_delivered s c.in-Some.call c.run_call.result) was in
          rw c.in_ok-push.ensures.ok (omega (arith, rows, one, c.run_call.ensures.at_least, c.loop-call.invariant.at_least));
      at_most =
          let rows = rows_more (Widened ((answers-value g.dyn-1).it c.args.widener.now)) rows_tried _ c.loop-call.yielded c.loop-call.replies c.in-Some.call c.run_call.result c.loop-call.invariant.replies in
          let one = ap (λ (s : Stage). rows_tried s c.in-Some.call c.run_call.result) was in
          rw c.in_ok-push.ensures.ok (omega (arith, rows, one, c.run_call.ensures.at_most, c.loop-call.invariant.at_most));
    }

pub returns-in_err-push-clause-stopped : goal.returns-in_err-push-clause-stopped
returns-in_err-push-clause-stopped g c =
    let p = err_from_is_err_and c.from_residual.result c.from_residual.ensures.1 in
    let given = c.into_iter-call-iterator.ensures.into_iter_gives in
    let yields = YieldsList-from_vec {s = c.into_iter-call-iterator.result} c.into_vec-call-items.result.items given.0 (given.1 ∙ c.into_vec-call-items.result.ok.0) in
    let turn = YieldsList-turn yields c.loop-call.yielded c.loop-call.call-iterator c.loop-call.yielded_by c.next.result c.next.new.self c.in-Some.call c.in-Some.is c.next.ensures.steps in
    let so_far = YieldsList-so_far yields c.loop-call.yielded c.loop-call.call-iterator c.loop-call.yielded_by in
    rw p.1
    (stopped (Widened ((answers-value g.dyn-1).it c.args.widener.now)) _ c.args.manager.now.setting c.args.calls c.loop-call.yielded c.loop-call.replies c.in-Some.call c.run_call.result _ c.args.steps.now c.loop-call.steps c.run_call.new.steps
    refl (rw c.into_vec-call-items.ensures at so_far) (rw c.into_vec-call-items.ensures at turn.0) (rw c.into_vec-call-items.ensures at turn.1)
    c.loop-call.invariant.replies c.loop-call.invariant.stage (c.run_call.ensures.reply, c.run_call.ensures.headers) c.loop-call.invariant.at_most c.run_call.ensures.at_most)

pub returns-in_err-number-clause-stopped : goal.returns-in_err-number-clause-stopped
returns-in_err-number-clause-stopped g c =
    let p = err_from_is_err_and c.from_residual-in_err-number.result c.from_residual-in_err-number.ensures.1 in
    let given = c.into_iter-call-iterator.ensures.into_iter_gives in
    let yields = YieldsList-from_vec {s = c.into_iter-call-iterator.result} c.into_vec-call-items.result.items given.0 (given.1 ∙ c.into_vec-call-items.result.ok.0) in
    let turn = YieldsList-turn yields c.loop-call.yielded c.loop-call.call-iterator c.loop-call.yielded_by c.next.result c.next.new.self c.in-Some.call c.in-Some.is c.next.ensures.steps in
    let so_far = YieldsList-so_far yields c.loop-call.yielded c.loop-call.call-iterator c.loop-call.yielded_by in
    rw p.1
    (stopped (Widened ((answers-value g.dyn-1).it c.args.widener.now)) _ c.args.manager.now.setting c.args.calls c.loop-call.yielded c.loop-call.replies c.in-Some.call c.run_call.result _ c.args.steps.now c.loop-call.steps c.run_call.new.steps
    refl (rw c.into_vec-call-items.ensures at so_far) (rw c.into_vec-call-items.ensures at turn.0) (rw c.into_vec-call-items.ensures at turn.1)
    c.loop-call.invariant.replies c.loop-call.invariant.stage (c.run_call.ensures.reply, c.run_call.ensures.headers) c.loop-call.invariant.at_most c.run_call.ensures.at_most)
