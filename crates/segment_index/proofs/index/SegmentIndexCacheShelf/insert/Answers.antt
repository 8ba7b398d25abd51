-- That `insert` uses the place that was made, and lists the load.
use Rattle.std.proofs.Common.{arith}
use Rattle.std.proofs.lemmas.List.Elements.{All-push}
use Rattle.cache_flush.specs.Loads.{KeptOf, kept_in}
use Rattle.segment_header.specs.Headers.{is_header}
use Rattle.std.specs.Prelude.{IsTrue}
use Rattle.olap_meaning.specs.Rolled.{value_count}
use Rattle.segment_index.specs.Index.{in_key, in_mask}
use Rattle.segment_index.proofs.ListedFacts.{listed_more}
use Rattle.segment_index.proofs.PlaceFacts.{its_place, place_used}
use Rattle.segment_index.proofs.index.SegmentIndexCacheShelf.insert.Goals as goal

pub add-requires-clause-masks : goal.add-requires-clause-masks
add-requires-clause-masks c =
    let (before, after, had) = c.requires.place in
    rw c.header.ensures.value (its_place in_mask c.self.inside.lists.masks c.self.inside.lists.masks c.args.kept.body.header before after (rw (← c.self.view_is) at had).1)

pub add-requires-clause-cells : goal.add-requires-clause-cells
add-requires-clause-cells c =
    let (before, after, had) = c.requires.place in
    rw (c.deref.ensures, c.header.ensures.value) (its_place (in_key (value_count c.self.inside.catalog.value)) c.self.inside.lists.cells c.self.inside.lists.cells c.args.kept.body.header before after (rw (← c.self.view_is) at had).2)

pub invariant_of-self : goal.invariant_of-self
invariant_of-self c =
    let ((masked, listed, formed), room) = c.self.invariant in
    let kept = kept_in c.self.inside.loads.flushed c.args.kept in (
      rw c.insert.ensures.loads (
        listed_more (value_count c.self.inside.catalog.value) in_mask c.self.inside.lists.masks c.add.new.self.masks c.self.inside.loads.loads kept (rw c.header.ensures.value at c.add.ensures.masks) masked,
        listed_more (value_count c.self.inside.catalog.value) (in_key (value_count c.self.inside.catalog.value)) c.self.inside.lists.cells c.add.new.self.cells c.self.inside.loads.loads kept (rw (c.deref.ensures, c.header.ensures.value) at c.add.ensures.cells) listed,
        All-push (λ (k : KeptOf). IsTrue (is_header k.body.header)) c.self.inside.loads.loads kept formed c.header.ensures.well_formed,
      ),
      omega (arith, room, c.insert.ensures.places),
    )

pub returns-clause-places : goal.returns-clause-places
returns-clause-places c =
    let by_mask = rw c.header.ensures.value at c.add.ensures.masks in
    let by_key = rw (c.deref.ensures, c.header.ensures.value) at c.add.ensures.cells in
    rw (← c.self.view_is) (place_used c.self.inside.catalog.value c.self.inside.loads c.insert.new.self c.self.inside.places c.self.inside.lists.masks c.add.new.self.masks c.self.inside.lists.cells c.add.new.self.cells c.args.kept.body.header by_mask.places by_key.places)
