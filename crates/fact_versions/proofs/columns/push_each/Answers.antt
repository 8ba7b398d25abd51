-- That `push_each` keeps what holds at each turn.
use Rattle.std.proofs.Common.{add-one, arith}
use Rattle.fact_versions.proofs.ColumnFacts.{set-with_row}
use Rattle.fact_versions.proofs.columns.push_each.Goals as goal

pub loop-i-preserved : goal.loop-i-preserved
loop-i-preserved g c =
    let is = rw c.loop-i.invariant at c.index-columns-i.is in
    rw (c.in_ok-push.ensures.ok, ← c.index-columns-i.is, c.loop-i.invariant, add-one) (set-with_row c.args.columns.now c.args.items.now c.loop-i.i c.index-columns-i.result c.index-items-i.result (omega arith) (omega arith) is c.index-items-i.is)
