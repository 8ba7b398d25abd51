use Rattle.std.proofs.Common.{◌≡◌, ◌∙◌, sym, get_or}
use Rattle.rollup_plan.proofs.MarkFacts.{taken, taken_marks, passed, passed_marks}
use Rattle.rollup_plan.proofs.marks.mark.Goals as goal
use Rattle.rollup_plan.proofs.marks.mark.Goals.{then-is_free+in_ok-push, else-is_free}

pub loop-value-preserved : goal.loop-value-preserved
loop-value-preserved c =
    let values = c.args.values.now in
    let here : c.value.inside.0 ≡ get_or values c.loop-value.value-index c.value.inside.0 = cc in
    elim c.if-is_free.branch [
      | then-is_free+in_ok-push w ↦
          let free = sym c.is_free.ensures ∙ w.if-is_free.true in
          rw (w.own-is, w.marks-is, w.in_ok-push.ensures.items)
          (record {
            own = taken c.args.marks.now values _ _ here c.requires c.loop-value-test.true c.loop-value.marks c.loop-value.auto.marks c.loop-value.invariant.marks free _ c.loop-value.invariant.own;
            marks = taken_marks c.args.marks.now values _ _ here c.requires c.loop-value-test.true c.loop-value.marks c.loop-value.auto.marks c.loop-value.invariant.marks free;
          })
      | else-is_free w ↦
          let fails = sym c.is_free.ensures ∙ w.if-is_free.false in
          rw (w.own-is, w.marks-is)
          (record {
            own = passed c.args.marks.now values _ _ here c.requires c.loop-value-test.true c.loop-value.marks c.loop-value.auto.marks c.loop-value.invariant.marks fails _ c.loop-value.invariant.own;
            marks = passed_marks c.args.marks.now values _ _ here c.requires c.loop-value-test.true c.loop-value.marks c.loop-value.auto.marks c.loop-value.invariant.marks fails;
          })
    ]
