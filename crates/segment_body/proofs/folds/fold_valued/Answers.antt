-- That `fold_valued` ensures what it says.
use Rattle.std.proofs.Common.{◌∙◌, sym, arith}
use Rattle.segment_body.specs.Folds.{are_at_value}
use Rattle.segment_body.specs.Groups.{group}
use Rattle.segment_body.proofs.FoldFacts.{picked_room, picked_yes, picked_no}
use Rattle.segment_body.proofs.folds.fold_valued.Goals as goal
use Rattle.segment_body.proofs.folds.fold_valued.Goals.{then-is_at_value, else-is_at_value}

pub merge-requires-clause-room : goal.merge-requires-clause-room
merge-requires-clause-room c =
    let room = picked_room (are_at_value c.args.columns.now c.args.at.now c.args.column c.args.value) c.args.groups.now c.loop-i.i (group c.at-group.result.0.now c.at-group.result.1.now) (rw c.len-i-end.ensures at c.loop-i-test.true) c.at-group.ensures in
    rw c.loop-i.invariant (omega (arith, room, c.requires.room))

pub loop-i-preserved : goal.loop-i-preserved
loop-i-preserved c =
    let told = (sym c.is_at_value.ensures) in
    elim c.if-is_at_value.branch [
      | then-is_at_value w ↦
          picked_yes (are_at_value c.args.columns.now c.args.at.now c.args.column c.args.value) c.args.groups.now c.loop-i.i (group c.at-group.result.0.now c.at-group.result.1.now) c.args.aggregator c.loop-i.tally c.if-is_at_value.tally (rw c.len-i-end.ensures at c.loop-i-test.true) c.at-group.ensures
          (told ∙ w.if-is_at_value.true) c.loop-i.invariant (w.tally-is ∙ w.merge.ensures)
      | else-is_at_value w ↦
          rw w.tally-is
          (picked_no (are_at_value c.args.columns.now c.args.at.now c.args.column c.args.value) c.args.groups.now c.loop-i.i (group c.at-group.result.0.now c.at-group.result.1.now) c.args.aggregator c.loop-i.tally (rw c.len-i-end.ensures at c.loop-i-test.true) c.at-group.ensures
          (told ∙ w.if-is_at_value.false) c.loop-i.invariant)
    ]
