-- That `paired` ensures what it says and keeps what holds at each turn.
use Rattle.std.proofs.Common.{arith}
use Rattle.olap_catalog.proofs.LayoutFacts.{zip_step, zip_end}
use Rattle.olap_catalog.proofs.paths.paired.Goals as goal

pub loop-i-preserved : goal.loop-i-preserved
loop-i-preserved c =
    zip_step c.loop-i.pairs c.push.new.self _ c.args.columns.now c.args.values.now c.loop-i.i c.index-columns-i.result c.index-values-i.result (omega (arith, c.loop-i-test.true, c.min-i-end.ensures))
    (omega (arith, c.loop-i-test.true, c.min-i-end.ensures)) c.index-columns-i.is c.index-values-i.is c.in_ok-push.ensures.ok c.loop-i.invariant

pub returns : goal.returns
returns c = zip_end c.loop-i.pairs _ c.args.columns.now c.args.values.now c.loop-i.i (omega (arith, c.loop-i-test.false, c.min-i-end.ensures)) c.loop-i.invariant
