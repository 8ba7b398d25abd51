-- That `narrow_values` ensures what it says and keeps what holds at each turn.
use Rattle.std.proofs.Common.{◌∙◌, ◌<◌, ◌≤◌, length, sym, arith}
use Rattle.segment_body.specs.Narrowed.{value_in}
use Rattle.segment_body.proofs.ValueFacts.{values_end, values_next, values_whole}
use Rattle.segment_body.proofs.narrow.narrow_values.Goals as goal

pub returns-in-None : goal.returns-in-None
returns-in-None c =
    let within : c.loop-k.k < length c.args.others.now = omega (arith, c.loop-k-test.true) in
    sym c.loop-k.invariant
    ∙ values_end (value_in c.args.columns.now c.args.values.now) c.args.others.now c.loop-k.k c.loop-k.buffer.items within (sym c.in-None.ensures)

pub loop-k-preserved : goal.loop-k-preserved
loop-k-preserved c =
    let within : c.loop-k.k < length c.args.others.now = omega (arith, c.loop-k-test.true) in
    rw c.in_ok-push-in-Some.ensures.items
    (values_next (value_in c.args.columns.now c.args.values.now) c.args.others.now c.loop-k.k c.loop-k.buffer.items c.in-Some.value within (sym c.in-Some.ensures)
    ∙ c.loop-k.invariant)

pub returns : goal.returns
returns c =
    let past : length c.args.others.now ≤ c.loop-k.k = omega (arith, c.loop-k-test.false) in
    sym c.loop-k.invariant
    ∙ values_whole (value_in c.args.columns.now c.args.values.now) c.args.others.now c.loop-k.k c.loop-k.buffer.items past
