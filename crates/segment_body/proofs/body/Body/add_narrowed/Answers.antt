-- That `add_narrowed` may call `add_group`, and ensures what it says.
use Rattle.segment_body.specs.Narrowed.{value_in}
use Rattle.segment_body.proofs.ValueFacts.{are_allowed_of}
use Rattle.segment_body.proofs.body.Body.add_narrowed.Goals as goal

pub add_group-requires-clause-allowed : goal.add_group-requires-clause-allowed
add_group-requires-clause-allowed c =
    let kept = rw (c.as_slice.ensures, c.as_slice-columns.ensures) at rw c.if-kept.true at c.in_ok-kept.ensures in
    rw (← c.self.view_is, c.as_slice-then-kept.ensures.value)
    (are_allowed_of (value_in c.args.wide.now.columns c.args.values.now) c.self.inside.header.columns c.narrow_values.new.buffer.items kept)
