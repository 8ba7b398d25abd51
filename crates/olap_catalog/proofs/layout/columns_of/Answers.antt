-- That `columns_of` keeps what holds at each turn.
use Rattle.std.proofs.Common.{rules, arith}
use Rattle.olap_meaning.specs.Schema.{levels_of}
use Rattle.olap_catalog.proofs.LayoutFacts.{schema_step, flat_length}
use Rattle.olap_catalog.proofs.layout.columns_of.Goals as goal

pub loop-place-preserved : goal.loop-place-preserved
loop-place-preserved c =
    let e = flat_length levels_of c.args.dimensions.now c.loop-place.place c.index-dimensions-place.result c.loop-place-test.true c.index-dimensions-place.is in
    record {
      rest = schema_step _ _ _ c.args.dimensions.now c.loop-place.place c.index-dimensions-place.result c.loop-place-test.true c.index-dimensions-place.is c.loop-place.invariant.rest (search rules);
      room = omega (arith, e, c.loop-place.invariant.room);
    }
