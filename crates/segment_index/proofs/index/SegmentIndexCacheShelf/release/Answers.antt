-- That `release` gives back one place.
use Rattle.std.proofs.Common.{arith}
use Rattle.olap_meaning.specs.Rolled.{value_count}
use Rattle.segment_index.specs.Index.{in_key, in_mask}
use Rattle.segment_index.proofs.ListedFacts.{listed_still}
use Rattle.segment_index.proofs.PlaceFacts.{its_place, place_used}
use Rattle.segment_index.proofs.index.SegmentIndexCacheShelf.release.Goals as goal

pub release-requires-clause-masks : goal.release-requires-clause-masks
release-requires-clause-masks c =
    let (before, after, had) = c.requires.place in
    its_place in_mask c.self.inside.lists.masks c.self.inside.lists.masks c.args.header.now before after (rw (← c.self.view_is) at had).1

pub release-requires-clause-cells : goal.release-requires-clause-cells
release-requires-clause-cells c =
    let (before, after, had) = c.requires.place in
    rw c.deref.ensures (its_place (in_key (value_count c.self.inside.catalog.value)) c.self.inside.lists.cells c.self.inside.lists.cells c.args.header.now before after (rw (← c.self.view_is) at had).2)

pub invariant_of-self : goal.invariant_of-self
invariant_of-self c =
    let ((masked, listed, formed), room) = c.self.invariant in
    let cells = rw c.deref.ensures at c.release.ensures.cells in (
      (
        listed_still (value_count c.self.inside.catalog.value) in_mask c.self.inside.lists.masks c.release.new.self.masks c.self.inside.loads.loads c.release.ensures.masks.loads masked,
        listed_still (value_count c.self.inside.catalog.value) (in_key (value_count c.self.inside.catalog.value)) c.self.inside.lists.cells c.release.new.self.cells c.self.inside.loads.loads cells.loads listed,
        formed,
      ),
      omega (arith, room),
    )

pub returns-clause-places : goal.returns-clause-places
returns-clause-places c =
    let cells = rw c.deref.ensures at c.release.ensures.cells in
    rw (← c.self.view_is) (place_used c.self.inside.catalog.value c.self.inside.loads c.self.inside.loads c.self.inside.places c.self.inside.lists.masks c.release.new.self.masks c.self.inside.lists.cells c.release.new.self.cells c.args.header.now c.release.ensures.masks.places cells.places)
