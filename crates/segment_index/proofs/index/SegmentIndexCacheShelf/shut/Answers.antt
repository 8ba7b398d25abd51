-- That `shut` leaves the loads listed that may still serve a cell.
use Rattle.std.proofs.Common.{arith}
use Rattle.std.specs.Prelude.{IsTrue}
use Rattle.std.proofs.lemmas.List.Elements.{All-map}
use Rattle.cache_flush.specs.Loads.{KeptOf, shut_off}
use Rattle.segment_header.specs.Headers.{is_header}
use Rattle.olap_meaning.specs.Rolled.{value_count}
use Rattle.segment_index.specs.Index.{in_key, in_mask}
use Rattle.segment_index.proofs.ListedFacts.{listed_shut}
use Rattle.segment_index.proofs.PlaceFacts.{places_stay}
use Rattle.segment_index.proofs.index.SegmentIndexCacheShelf.shut.Goals as goal

pub unlist-requires-clause-kept : goal.unlist-requires-clause-kept
unlist-requires-clause-kept c =
    let ((masked, listed, formed), room) = c.self.invariant in
    rw (c.deref.ensures, c.shut.ensures.loads) (
      listed_shut (value_count c.self.inside.catalog.value) in_mask c.self.inside.lists.masks c.args.region.now c.self.inside.loads.loads masked,
      listed_shut (value_count c.self.inside.catalog.value) (in_key (value_count c.self.inside.catalog.value)) c.self.inside.lists.cells c.args.region.now c.self.inside.loads.loads listed,
      All-map (λ (k : KeptOf). IsTrue (is_header k.body.header)) (shut_off c.args.region.now) c.self.inside.loads.loads formed,
    )

pub returns-clause-places : goal.returns-clause-places
returns-clause-places c =
    rw (← c.self.view_is) (places_stay c.self.inside.catalog.value c.self.inside.loads c.shut.new.self c.self.inside.places c.self.inside.places c.self.inside.lists.masks c.unlist.new.lists.masks c.self.inside.lists.cells c.unlist.new.lists.cells (omega arith)
    (λ q. let same = c.unlist.ensures.masks q in omega (arith, same)) (λ q. let same = c.unlist.ensures.cells q in omega (arith, same)))
