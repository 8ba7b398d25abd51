-- That `count_fact_columns` keeps what holds at each turn.
use Rattle.std.proofs.Common.{◌∙◌, sym, arith, true, false}
use Rattle.olap_plain.proofs.Fields.{columns_on}
use Rattle.olap_plain.proofs.catalogs.count_fact_columns.Goals as goal
use Rattle.olap_plain.proofs.catalogs.count_fact_columns.Goals.{then-new, else-new}

pub loop-i-preserved : goal.loop-i-preserved
loop-i-preserved c =
    elim c.if-new.branch [
      | then-new w ↦ record { counted = columns_on c.args.measures.now c.loop-i.i c.index-measures-i.result c.loop-i.count c.if-new.count true c.loop-i-test.true c.index-measures-i.is (sym w.if-new.true ∙ c.adds_fact_column-new.ensures) (w.count-is) c.loop-i.invariant.counted; within = omega arith }
      | else-new w ↦ record { counted = columns_on c.args.measures.now c.loop-i.i c.index-measures-i.result c.loop-i.count c.if-new.count false c.loop-i-test.true c.index-measures-i.is (sym w.if-new.false ∙ c.adds_fact_column-new.ensures) (w.count-is ∙ omega arith) c.loop-i.invariant.counted; within = omega arith }
    ]
