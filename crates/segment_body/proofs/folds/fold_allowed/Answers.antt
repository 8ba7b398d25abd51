-- That `fold_allowed` ensures what it says.
use Rattle.std.proofs.Common.{◌∙◌, sym, arith}
use Rattle.segment_body.specs.Folds.{are_at_allowed}
use Rattle.segment_body.specs.Groups.{group}
use Rattle.segment_body.proofs.FoldFacts.{picked_room, picked_yes, picked_no}
use Rattle.segment_body.proofs.folds.fold_allowed.Goals as goal
use Rattle.segment_body.proofs.folds.fold_allowed.Goals.{then-is_at_allowed, else-is_at_allowed}

pub merge-requires-clause-room : goal.merge-requires-clause-room
merge-requires-clause-room c =
    let room = picked_room (are_at_allowed c.args.columns.now c.args.at.now c.args.column c.args.allowed.now) c.args.groups.now c.loop-i.i (group c.at-group.result.0.now c.at-group.result.1.now) (rw c.len-i-end.ensures at c.loop-i-test.true) c.at-group.ensures in
    rw c.loop-i.invariant (omega (arith, room, c.requires.room))

pub loop-i-preserved : goal.loop-i-preserved
loop-i-preserved c =
    let told = (sym c.is_at_allowed.ensures) in
    elim c.if-is_at_allowed.branch [
      | then-is_at_allowed w ↦
          picked_yes (are_at_allowed c.args.columns.now c.args.at.now c.args.column c.args.allowed.now) c.args.groups.now c.loop-i.i (group c.at-group.result.0.now c.at-group.result.1.now) c.args.aggregator c.loop-i.tally c.if-is_at_allowed.tally (rw c.len-i-end.ensures at c.loop-i-test.true) c.at-group.ensures
          (told ∙ w.if-is_at_allowed.true) c.loop-i.invariant (w.tally-is ∙ w.merge.ensures)
      | else-is_at_allowed w ↦
          rw w.tally-is
          (picked_no (are_at_allowed c.args.columns.now c.args.at.now c.args.column c.args.allowed.now) c.args.groups.now c.loop-i.i (group c.at-group.result.0.now c.at-group.result.1.now) c.args.aggregator c.loop-i.tally (rw c.len-i-end.ensures at c.loop-i-test.true) c.at-group.ensures
          (told ∙ w.if-is_at_allowed.false) c.loop-i.invariant)
    ]
