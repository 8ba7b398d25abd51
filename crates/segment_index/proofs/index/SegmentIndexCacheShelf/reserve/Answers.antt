-- That `reserve` makes one place more, and keeps the others.
use Rattle.std.proofs.Common.{arith}
use Rattle.olap_meaning.specs.Rolled.{value_count}
use Rattle.segment_index.specs.Index.{in_key, in_mask}
use Rattle.segment_index.proofs.ListedFacts.{listed_still}
use Rattle.segment_index.proofs.PlaceFacts.{place_made, places_stay}
use Rattle.segment_index.proofs.index.SegmentIndexCacheShelf.reserve.Goals as goal

pub invariant_of-self-in_err-reserve-2 : goal.invariant_of-self-in_err-reserve-2
invariant_of-self-in_err-reserve-2 c =
    let ((masked, listed, formed), room) = c.self.invariant in (
      rw c.reserve.ensures.loads (
        listed_still (value_count c.self.inside.catalog.value) in_mask c.self.inside.lists.masks c.reserve-2.new.self.masks c.self.inside.loads.loads c.in_err-reserve-2.ensures.err_masks.loads masked,
        listed_still (value_count c.self.inside.catalog.value) (in_key (value_count c.self.inside.catalog.value)) c.self.inside.lists.cells c.reserve-2.new.self.cells c.self.inside.loads.loads c.in_err-reserve-2.ensures.err_cells.loads listed,
        formed,
      ),
      omega (arith, room, c.reserve.ensures.places),
    )

pub returns-in_err-reserve-2-clause-places : goal.returns-in_err-reserve-2-clause-places
returns-in_err-reserve-2-clause-places c =
    rw (← c.self.view_is) (places_stay c.self.inside.catalog.value c.self.inside.loads c.reserve.new.self c.self.inside.places c.self.inside.places c.self.inside.lists.masks c.reserve-2.new.self.masks c.self.inside.lists.cells c.reserve-2.new.self.cells (omega arith)
    (λ q. let same = c.in_err-reserve-2.ensures.err_masks.places q in omega (arith, same)) (λ q. let same = c.in_err-reserve-2.ensures.err_cells.places q in omega (arith, same)))

pub invariant_of-self-2 : goal.invariant_of-self-2
invariant_of-self-2 c =
    let ((masked, listed, formed), room) = c.self.invariant in (
      rw c.reserve.ensures.loads (
        listed_still (value_count c.self.inside.catalog.value) in_mask c.self.inside.lists.masks c.reserve-2.new.self.masks c.self.inside.loads.loads c.in_ok-reserve-2.ensures.ok_masks.loads masked,
        listed_still (value_count c.self.inside.catalog.value) (in_key (value_count c.self.inside.catalog.value)) c.self.inside.lists.cells c.reserve-2.new.self.cells c.self.inside.loads.loads c.in_ok-reserve-2.ensures.ok_cells.loads listed,
        formed,
      ),
      c.in_ok-reserve.ensures.ok,
    )

pub returns-clause-place : goal.returns-clause-place
returns-clause-place c =
    rw (← c.self.view_is, c.in_ok-places.ensures) (place_made c.self.inside.catalog.value c.self.inside.loads c.reserve.new.self c.self.inside.places c.self.inside.lists.masks c.reserve-2.new.self.masks c.self.inside.lists.cells c.reserve-2.new.self.cells c.args.header.now
    c.in_ok-reserve-2.ensures.ok_masks (rw c.deref.ensures at c.in_ok-reserve-2.ensures.ok_cells))

pub returns-clause-places : goal.returns-clause-places
returns-clause-places c =
    rw (← c.self.view_is) (places_stay c.self.inside.catalog.value c.self.inside.loads c.reserve.new.self c.self.inside.places c.in_ok-places.places c.self.inside.lists.masks c.reserve-2.new.self.masks c.self.inside.lists.cells c.reserve-2.new.self.cells (omega (arith, c.in_ok-places.ensures))
    (λ q. let more = c.in_ok-reserve-2.ensures.ok_masks.places q in omega (arith, more)) (λ q. let more = (rw c.deref.ensures at c.in_ok-reserve-2.ensures.ok_cells).places q in omega (arith, more)))
