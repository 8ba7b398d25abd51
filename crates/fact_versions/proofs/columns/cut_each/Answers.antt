-- That `cut_each` keeps what holds at each turn.
use Rattle.std.proofs.Common.{take, add-one, arith}
use Rattle.fact_versions.proofs.ColumnFacts.{set-mapped}
use Rattle.fact_versions.proofs.columns.cut_each.Goals as goal

pub loop-column-preserved : goal.loop-column-preserved
loop-column-preserved g c =
    let is = rw c.loop-column.invariant at c.column-item.is in
    rw (c.cut.ensures, ← c.column-item.is, c.loop-column.invariant, add-one) (set-mapped (λ column. take c.args.kept column) c.args.columns.now c.loop-column.column-index c.column-item.result (omega arith) is)
