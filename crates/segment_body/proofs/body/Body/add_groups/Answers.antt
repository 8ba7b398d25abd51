-- That `add_groups` ensures what it says and keeps what holds at each turn.
use Rattle.std.proofs.Common.{◌∙◌, ℕ, ℤ, List, Option, flat_map, length-append, take, append_assoc, ap, arith}
use Rattle.segment_body.specs.BodyOf.{BodyOf}
use Rattle.segment_body.specs.Groups.{group}
use Rattle.segment_body.specs.Narrowed.{narrowed_group}
use Rattle.segment_body.proofs.NarrowFacts.{narrowed_more, narrowed_room}
use Rattle.segment_body.proofs.body.Body.add_groups.Goals as goal

pub add_narrowed-requires-clause-room : goal.add_narrowed-requires-clause-room
add_narrowed-requires-clause-room g c =
    let room = narrowed_room c.args.wide.now c.args.self.now.header c.args.groups.now c.loop-i.i (group c.hand_out-group.result.0.now c.hand_out-group.result.1.now) (rw c.len-i-end.ensures at c.loop-i-test.true) c.hand_out-group.ensures.group in
    rw c.loop-i.invariant.added (omega (arith, room, c.requires.room, length-append c.args.self.now.rows (flat_map (narrowed_group c.args.wide.now c.args.self.now.header) (take c.loop-i.i c.args.groups.now))))

pub loop-i-preserved : goal.loop-i-preserved
loop-i-preserved g c =
    let more = narrowed_more c.args.wide.now c.args.self.now.header c.args.groups.now c.loop-i.i (group c.hand_out-group.result.0.now c.hand_out-group.result.1.now) (rw c.len-i-end.ensures at c.loop-i-test.true) c.hand_out-group.ensures.group in
    record {
      added =
          c.in_ok-add_narrowed.ensures ∙ rw (c.loop-i.invariant.added, more) (ap with_all (append_assoc c.args.self.now.rows _ _));
      counted = omega (arith, c.hand_out-group.ensures.cost, c.loop-i.invariant.counted);
    }
  where
    with_all : List (List ℕ × Option ℤ) → BodyOf
    with_all rows = record { header = c.args.self.now.header; aggregator = c.args.self.now.aggregator; rows = rows }
