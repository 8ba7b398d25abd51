-- The flushes still rise, and the last is the new one.
use Rattle.std.proofs.Common.{sym}
use Rattle.cache_flush.proofs.RisingFacts.{last_push, rise_push}
use Rattle.cache_flush.proofs.record.Record.add.Goals as goal

pub invariant_of-self : goal.invariant_of-self
invariant_of-self c = rw c.push_reserved.ensures.items (
  rise_push c.self.inside.flushes.items c.args.flush c.self.invariant.0 (rw (← c.self.view_is) at c.requires.later),
  sym (last_push c.self.inside.flushes.items c.args.flush),
  c.self.invariant.2,
)
