-- What holds at each turn of `make_calls`.
use Rattle.std.proofs.Common.{◌≡◌, ◌+◌, ◌≤◌}
use Rattle.segment_header.specs.contracts.widener.WidenerAllowsValues.TheImpl.{answers-value}
use Rattle.segment_header.specs.Widening.{Widened}
use Rattle.manager_calls.specs.Runs.{IsRun, MayReplyAll, first_stage, rows_delivered, rows_over, rows_tried, stage_after, stage_of}
use Rattle.manager_calls.proofs.calls.make_calls.Given as goal

-- the calls so far are made, and each reply has its cause
abbrev pub invariant-loop-call : goal.invariant-loop-call
invariant-loop-call g l = record {
  run : IsRun l.manager l.jobs.items l.number;
  stage : stage_of l.manager l.jobs.items l.number ≡ stage_after (first_stage l.initial.manager.setting) l.yielded l.replies;
  setting : l.manager.setting ≡ l.initial.manager.setting;
  replies : MayReplyAll (Widened ((answers-value g.dyn-1).it l.widener)) (first_stage l.initial.manager.setting) l.yielded l.replies;
  at_least : l.initial.steps + rows_over rows_delivered (first_stage l.initial.manager.setting) l.yielded l.replies ≤ l.steps;
  at_most : l.steps ≤ l.initial.steps + rows_over rows_tried (first_stage l.initial.manager.setting) l.yielded l.replies;
}
