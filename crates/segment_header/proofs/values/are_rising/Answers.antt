-- That `are_rising` ensures what it says and keeps what holds at each turn.
use Rattle.std.proofs.Common.{◌∙◌, sym}
use Rattle.segment_header.proofs.RiseFacts.{below_from, rise_on, rise_end}
use Rattle.segment_header.proofs.values.are_rising.Goals as goal

pub loop-i-preserved : goal.loop-i-preserved
loop-i-preserved c =
    let next = rise_on (λ value. value) c.args.values.now c.loop-i.i c.index-values-i.result c.index-values-i-in-loop-i.result c.loop-i.auto.i c.loop-i-test.true c.index-values-i.is c.index-values-i-in-loop-i.is in
    let below = below_from c.index-values-i.result c.index-values-i-in-loop-i.result c.ge.result c.ge.ensures c.if-ge.false in
    sym (rw below at next) ∙ c.loop-i.invariant

pub returns : goal.returns
returns c = sym (rise_end (λ value. value) c.args.values.now c.loop-i.i c.loop-i.auto.i c.loop-i-test.false) ∙ c.loop-i.invariant
