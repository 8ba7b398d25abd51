-- The place of a number among the flushes tells how many are after it.
use Rattle.std.proofs.Common.{arith, Ok, Err}
use Rattle.cache_flush.proofs.RisingFacts.{counted_found, counted_missed, found_at}
use Rattle.cache_flush.proofs.record.Record.count_after.Goals as goal

pub returns-in-Ok : goal.returns-in-Ok
returns-in-Ok c =
    let (inside, here) = found_at c.self.inside.flushes.items c.args.since (Ok c.in-Ok.place) c.self.invariant.0 (rw c.deref.ensures.value at c.in-Ok.ensures.position) in
    let counted = counted_found c.self.inside.flushes.items c.in-Ok.place c.args.since c.self.invariant.0 inside here in
    let long = rw c.deref.ensures.value at c.deref.ensures.len in
    rw (← c.self.view_is) (omega (arith, counted, long, c.len.ensures))

pub returns-in-Err : goal.returns-in-Err
returns-in-Err c =
    let (inside, below, above) = found_at c.self.inside.flushes.items c.args.since (Err c.in-Err.place) c.self.invariant.0 (rw c.deref.ensures.value at c.in-Err.ensures.position) in
    let counted = counted_missed c.self.inside.flushes.items c.in-Err.place c.args.since inside below above in
    let long = rw c.deref.ensures.value at c.deref.ensures.len in
    rw (← c.self.view_is) (omega (arith, counted, long, c.len-in-Err.ensures))
