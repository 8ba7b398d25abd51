-- The last flush tells whether there is a later one.
use Rattle.std.proofs.Common.{◌∙◌, ap, nat_lt}
use Rattle.cache_flush.proofs.RisingFacts.{any_last}
use Rattle.cache_flush.proofs.record.Record.is_after.Goals as goal

pub returns : goal.returns
returns c = rw (← c.self.view_is) (ap (nat_lt c.args.since) c.self.invariant.1 ∙ any_last c.self.inside.flushes.items c.args.since c.self.invariant.0)
