-- That `take_groups` ensures what it says.
use Rattle.std.proofs.Common.{◌∙◌, ◌<◌, ap, length, sym, take}
use Rattle.std.specs.Prelude.{option_copied}
use Rattle.segment_body.specs.Groups.{Group, group}
use Rattle.segment_body.specs.Tables.{are_taken, passes}
use Rattle.segment_body.proofs.TableFacts.{grown_alike, grown_different, grown_no, grown_none, grown_room, grown_yes}
use Rattle.segment_body.proofs.tables.take_groups.Goals as goal
use Rattle.segment_body.proofs.tables.take_groups.Goals.{then-may_pass, else-may_pass}

pub loop-i-init : goal.loop-i-init
loop-i-init c = grown_none (are_taken c.args.places.now (passes c.args.columns.now c.args.column (option_copied c.args.own))) c.args.table.now

pub take_in-requires-clause-different : goal.take_in-requires-clause-different
take_in-requires-clause-different c =
    rw c.loop-i.invariant
    (grown_different (are_taken c.args.places.now (passes c.args.columns.now c.args.column (option_copied c.args.own))) (take c.loop-i.i c.args.groups.now) c.args.table.now c.requires.different)

pub take_in-requires-clause-alike : goal.take_in-requires-clause-alike
take_in-requires-clause-alike c k d inside =
    let g : Group = group c.at-group.result.0.now c.at-group.result.1.now in
    let within : c.loop-i.i < length c.args.groups.now = rw c.len-i-end.ensures at c.loop-i-test.true in
    let kind = ap (λ (h : Group). h.tally.aggregator) c.at-group.ensures ∙ c.requires.alike c.loop-i.i g within in
    let all = grown_alike c.args.aggregator (are_taken c.args.places.now (passes c.args.columns.now c.args.column (option_copied c.args.own))) (take c.loop-i.i c.args.groups.now) c.args.table.now c.requires.own_alike in
    (rw (← c.loop-i.invariant) at all) k d inside ∙ sym kind

pub take_in-requires-clause-room : goal.take_in-requires-clause-room
take_in-requires-clause-room c =
    let g : Group = group c.at-group.result.0.now c.at-group.result.1.now in
    let within : c.loop-i.i < length c.args.groups.now = rw c.len-i-end.ensures at c.loop-i-test.true in
    rw (c.loop-i.invariant, c.choose.ensures)
    (grown_room c.args.places.now (passes c.args.columns.now c.args.column (option_copied c.args.own)) c.args.groups.now c.loop-i.i g within c.at-group.ensures
    (sym c.may_pass.ensures ∙ c.if-may_pass.true) c.args.table.now c.requires.room)

pub loop-i-preserved : goal.loop-i-preserved
loop-i-preserved c =
    let g : Group = group c.at-group.result.0.now c.at-group.result.1.now in
    let within : c.loop-i.i < length c.args.groups.now = rw c.len-i-end.ensures at c.loop-i-test.true in
    elim c.if-may_pass.branch [
      | then-may_pass w ↦
          w.table-is ∙ rw (c.loop-i.invariant, w.choose.ensures) at w.take_in.ensures
          ∙ grown_yes c.args.places.now (passes c.args.columns.now c.args.column (option_copied c.args.own)) c.args.groups.now c.loop-i.i g within c.at-group.ensures (sym c.may_pass.ensures ∙ w.if-may_pass.true) c.args.table.now
      | else-may_pass w ↦
          w.table-is ∙ c.loop-i.invariant
          ∙ grown_no c.args.places.now (passes c.args.columns.now c.args.column (option_copied c.args.own)) c.args.groups.now c.loop-i.i g within c.at-group.ensures (sym c.may_pass.ensures ∙ w.if-may_pass.false) c.args.table.now
    ]
