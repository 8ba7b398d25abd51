-- Each column is above the one before, or the columns do not rise.
use Rattle.std.proofs.Common.{◌∙◌, sym}
use Rattle.segment_header.proofs.RiseFacts.{below_from, rise_on, rise_end}
use Rattle.segment_header.proofs.columns.columns_rise.Goals as goal

pub loop-i-preserved : goal.loop-i-preserved
loop-i-preserved g c =
    let next = rise_on (λ column. column.0) c.args.columns.now c.loop-i.i c.index-columns-i.result c.index-columns-i-in-loop-i.result c.loop-i.auto.i c.loop-i-test.true c.index-columns-i.is c.index-columns-i-in-loop-i.is in
    let below = below_from c.index-columns-i.result.0 c.index-columns-i-in-loop-i.result.0 c.ge.result (rw (← c.index-columns-i.is, ← c.index-columns-i-in-loop-i.is) at c.ge.ensures) c.if-ge.false in
    sym (rw below at next) ∙ c.loop-i.invariant

pub returns : goal.returns
returns g c = sym (rise_end (λ column. column.0) c.args.columns.now c.loop-i.i c.loop-i.auto.i c.loop-i-test.false) ∙ c.loop-i.invariant
