-- That `remove` takes the number out.
use Rattle.std.proofs.Common.{Err, Ok}
use Rattle.segment_index.proofs.LoadFacts.{on_some}
use Rattle.cache_flush.proofs.RisingFacts.{found_at}
use Rattle.segment_index.proofs.RisingFacts.{among_left, among_others, left_rise}
use Rattle.segment_index.proofs.numbers.Numbers.remove.Goals as goal

pub invariant_of-self : goal.invariant_of-self
invariant_of-self c =
    let items = on_some c.remove.result (c.remove.ensures.variant.1 c.in-Ok.ensures.bound) c.remove.ensures.items in
    rw items (left_rise c.self.inside.rising.items c.in-Ok.place c.self.invariant)

pub returns-in-Ok-clause-members : goal.returns-in-Ok-clause-members
returns-in-Ok-clause-members c other =
    let items = on_some c.remove.result (c.remove.ensures.variant.1 c.in-Ok.ensures.bound) c.remove.ensures.items in
    let (inside, here) = found_at c.self.inside.rising.items c.args.number (Ok c.in-Ok.place) c.self.invariant c.in-Ok.ensures.position in
    rw (items, ← c.self.view_is) (among_left c.self.inside.rising.items c.in-Ok.place c.args.number other c.self.invariant inside here)

pub returns-in_default-clause-members : goal.returns-in_default-clause-members
returns-in_default-clause-members c other =
    let (inside, below, above) = found_at c.self.inside.rising.items c.args.number (Err c.in_default.field-0) c.self.invariant c.in_default.ensures.position in
    rw (← c.self.view_is) (among_others c.self.inside.rising.items c.in_default.field-0 c.args.number other below above)
