-- That `number_in` ensures what it says and keeps what holds at each turn.
use Rattle.std.proofs.Common.{◌∙◌, ap, sym, arith, Some, true, false}
use Rattle.olap_plain.proofs.Fields.{counts_on, none_step, found_step, none_in}
use Rattle.olap_plain.proofs.catalogs.number_in.Goals as goal
use Rattle.olap_plain.proofs.catalogs.number_in.Goals.{then-new, else-new}

pub returns-then-found : goal.returns-then-found
returns-then-found c =
    ap Some c.loop-i.invariant.counted
    ∙ sym (found_step c.args.field c.args.records.now c.loop-i.i c.index-records-i.result c.args.text.now c.loop-i-test.true c.index-records-i.is c.loop-i.invariant.unfound (sym c.field_is-found.ensures ∙ c.if-found.true))

pub loop-i-preserved : goal.loop-i-preserved
loop-i-preserved c =
    elim c.if-new.branch [
      | then-new w ↦ record { counted = counts_on c.args.field c.args.records.now c.loop-i.i c.index-records-i-in-loop-i.result c.loop-i.count c.if-new.count true c.loop-i-test.true c.index-records-i-in-loop-i.is (sym w.if-new.true ∙ c.adds_value-new.ensures) (w.count-is) c.loop-i.invariant.counted; within = omega arith; unfound = none_step c.args.field c.args.records.now c.loop-i.i c.index-records-i.result c.args.text.now c.loop-i-test.true c.index-records-i.is c.loop-i.invariant.unfound (sym c.field_is-found.ensures ∙ c.if-found.false) }
      | else-new w ↦ record { counted = counts_on c.args.field c.args.records.now c.loop-i.i c.index-records-i-in-loop-i.result c.loop-i.count c.if-new.count false c.loop-i-test.true c.index-records-i-in-loop-i.is (sym w.if-new.false ∙ c.adds_value-new.ensures) (w.count-is ∙ omega arith) c.loop-i.invariant.counted; within = omega arith; unfound = none_step c.args.field c.args.records.now c.loop-i.i c.index-records-i.result c.args.text.now c.loop-i-test.true c.index-records-i.is c.loop-i.invariant.unfound (sym c.field_is-found.ensures ∙ c.if-found.false) }
    ]

pub returns : goal.returns
returns c = sym (none_in c.args.field c.args.records.now c.loop-i.i c.args.text.now (omega arith) c.loop-i.invariant.unfound)
