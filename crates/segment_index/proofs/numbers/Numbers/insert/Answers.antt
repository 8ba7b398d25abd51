-- That `insert` puts the number in its place.
use Rattle.std.proofs.Common.{◌∙◌, Err, Ok, sym}
use Rattle.segment_index.proofs.LoadFacts.{on_ok}
use Rattle.cache_flush.proofs.RisingFacts.{found_at}
use Rattle.segment_index.proofs.RisingFacts.{among_inserted, among_still, inserted_rise}
use Rattle.segment_index.proofs.numbers.Numbers.insert.Goals as goal

pub invariant_of-self : goal.invariant_of-self
invariant_of-self c =
    let items = on_ok c.insert-added.result (sym c.is_ok.ensures.value ∙ c.if-prove.false) c.insert-added.ensures.items in
    let (inside, below, above) = found_at c.self.inside.rising.items c.args.number (Err c.in-Err.place) c.self.invariant c.in-Err.ensures.position in
    rw items (inserted_rise c.self.inside.rising.items c.in-Err.place c.args.number c.self.invariant below above)

pub returns-in-Err-clause-members : goal.returns-in-Err-clause-members
returns-in-Err-clause-members c other =
    let items = on_ok c.insert-added.result (sym c.is_ok.ensures.value ∙ c.if-prove.false) c.insert-added.ensures.items in
    rw (items, ← c.self.view_is) (among_inserted c.self.inside.rising.items c.in-Err.place c.args.number other)

pub returns-in_default-clause-members : goal.returns-in_default-clause-members
returns-in_default-clause-members c other =
    let (inside, here) = found_at c.self.inside.rising.items c.args.number (Ok c.in_default.field-0) c.self.invariant c.in_default.ensures.position in
    rw (← c.self.view_is) (among_still c.self.inside.rising.items c.in_default.field-0 c.args.number other inside here)
