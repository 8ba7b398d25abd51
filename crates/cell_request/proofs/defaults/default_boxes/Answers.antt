-- That `default_boxes` keeps what holds at each turn.
use Rattle.std.proofs.Common.{arith}
use Rattle.cell_request.proofs.DefaultFacts.{boxes_more}
use Rattle.cell_request.proofs.defaults.default_boxes.Goals as goal

pub loop-h-preserved : goal.loop-h-preserved
loop-h-preserved c =
    boxes_more c.args.catalog.now c.args.cube c.loop-h.h c.loop-h.kept c.add_default.new.kept (omega (arith, c.hierarchy_count-h-end.ensures.count)) c.loop-h.invariant c.in_ok-add_default.ensures.own c.in_ok-add_default.ensures.added
