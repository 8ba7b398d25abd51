-- A header that does not meet the anchor is not touched.
use Rattle.std.proofs.Common.{◌∙◌, sym}
use Rattle.cache_flush.proofs.AnchorFacts.{touch_meets}
use Rattle.cache_flush.proofs.record.Record.touches.Goals as goal

pub returns-else-meets : goal.returns-else-meets
returns-else-meets c =
    rw (← c.self.view_is) (c.if-meets.false ∙ sym (touch_meets c.self.inside.region.value c.args.header.now c.self.inside.anchor c.self.invariant.2 (sym c.meets.ensures ∙ c.if-meets.false)))
