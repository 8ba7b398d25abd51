-- That `add_hierarchies` keeps what holds at each turn.
use Rattle.std.proofs.Common.{rules}
use Rattle.olap_catalog.proofs.LayoutFacts.{hierarchies_step, room_step}
use Rattle.olap_catalog.proofs.layout.add_hierarchies.Goals as goal

pub loop-hierarchy-preserved : goal.loop-hierarchy-preserved
loop-hierarchy-preserved c = record {
  rest = hierarchies_step _ _ _ c.args.dimension c.loop-hierarchy.column c.len-count.result c.args.hierarchies.now c.loop-hierarchy.hierarchy-index c.hierarchy-item.result c.loop-hierarchy-test.true c.hierarchy-item.is
      c.loop-hierarchy.invariant.rest (search rules) c.len-count.ensures;
  room = room_step (λ h. h.levels) c.args.hierarchies.now c.loop-hierarchy.hierarchy-index c.loop-hierarchy.column c.len-count.result _ c.hierarchy-item.result c.loop-hierarchy-test.true c.hierarchy-item.is
      c.loop-hierarchy.invariant.room c.len-count.ensures;
}
