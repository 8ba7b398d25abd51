-- That `shut` changes each load, and no number.
use Rattle.segment_index.proofs.LeftFacts.{held_shut}
use Rattle.segment_index.proofs.LoadFacts.{loads_more, loads_of, numbered_more, same_numbers, within_more}
use Rattle.segment_index.proofs.loads.Loads.shut.Goals as goal

pub invariant_of-self : goal.invariant_of-self
invariant_of-self c =
    let (numbered, differ, just, held, within) = c.self.invariant in
    let regions = c.self.inside.shut.regions in
    let es = c.self.inside.by_number.entries in
    let loads = loads_of regions es in
    rw (c.add.ensures.regions) (
      numbered_more regions c.args.region.now es numbered,
      rw (loads_more regions c.args.region.now es within, same_numbers c.args.region.now loads) differ,
      λ number. rw (loads_more regions c.args.region.now es within, same_numbers c.args.region.now loads) (just number),
      rw (loads_more regions c.args.region.now es within) (held_shut c.args.region.now loads c.self.inside.groups held),
      within_more regions c.args.region.now es within,
    )

pub returns-clause-loads : goal.returns-clause-loads
returns-clause-loads c =
    let (numbered, differ, just, held, within) = c.self.invariant in
    rw (c.add.ensures.regions, ← c.self.view_is) (loads_more c.self.inside.shut.regions c.args.region.now c.self.inside.by_number.entries within)
