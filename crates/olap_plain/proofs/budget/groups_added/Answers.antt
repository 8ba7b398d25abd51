-- That `groups_added` keeps what holds at each turn.
use Rattle.std.proofs.Common.{◌∙◌, sym, arith, true, false, length}
use Rattle.olap_meaning.specs.History.{rows_of}
use Rattle.olap_plain.specs.Entries.{entries}
use Rattle.olap_plain.specs.GroupTests.{groups_of}
use Rattle.olap_plain.proofs.GroupFacts.{groups_on}
use Rattle.olap_plain.proofs.budget.groups_added.Goals as goal
use Rattle.olap_plain.proofs.budget.groups_added.Goals.{then-new, else-new}

pub loop-i-preserved : goal.loop-i-preserved
loop-i-preserved c =
    elim c.if-new.branch [
      | then-new w ↦ record {
        counted = groups_on c.args.catalog.now c.args.header.now (rows_of (entries c.args.before.now) c.args.header.now.cube c.args.last) c.args.rows.now c.loop-i.i c.index-rows-i.result (length (groups_of c.args.catalog.now c.args.header.now (rows_of (entries c.args.before.now) c.args.header.now.cube c.args.last))) c.loop-i.count c.if-new.count true c.loop-i-test.true c.index-rows-i.is (sym w.if-new.true ∙ c.adds_group-new.ensures) w.count-is c.loop-i.invariant.counted;
        within = omega arith;
      }
      | else-new w ↦ record {
        counted = groups_on c.args.catalog.now c.args.header.now (rows_of (entries c.args.before.now) c.args.header.now.cube c.args.last) c.args.rows.now c.loop-i.i c.index-rows-i.result (length (groups_of c.args.catalog.now c.args.header.now (rows_of (entries c.args.before.now) c.args.header.now.cube c.args.last))) c.loop-i.count c.if-new.count false c.loop-i-test.true c.index-rows-i.is (sym w.if-new.false ∙ c.adds_group-new.ensures) (w.count-is ∙ omega arith) c.loop-i.invariant.counted;
        within = omega arith;
      }
    ]
