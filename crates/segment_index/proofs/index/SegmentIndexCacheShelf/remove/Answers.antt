-- That `remove` takes the load out of the lists, and keeps each place.
use Rattle.std.proofs.Common.{◌∙◌, ap, arith, option_map, sym}
use Rattle.std.proofs.lemmas.List.Elements.{All-filter}
use Rattle.std.proofs.lemmas.List.Sorted.{All-permutation}
use Rattle.std.specs.Prelude.{IsTrue, not, ◌==◌}
use Rattle.cache_flush.specs.Loads.{KeptOf, kept_in}
use Rattle.segment_header.specs.Headers.{is_header}
use Rattle.olap_meaning.specs.Rolled.{value_count}
use Rattle.segment_index.specs.Index.{in_key, in_mask}
use Rattle.segment_index.proofs.LeftFacts.{none_found}
use Rattle.segment_index.proofs.ListedFacts.{listed_left, listed_moved, others}
use Rattle.segment_index.proofs.PlaceFacts.{places_stay}
use Rattle.segment_index.proofs.index.SegmentIndexCacheShelf.remove.Goals as goal

pub invariant_of-self : goal.invariant_of-self
invariant_of-self c =
    let ((masked, listed, formed), room) = c.self.invariant in
    let none = sym c.remove.ensures.taken ∙ ap (option_map (kept_in c.self.inside.loads.flushed)) c.in_err-kept.was in
    let moved = rw (none_found c.self.inside.loads.loads c.args.load none) at c.remove.ensures.left in (
      (
        listed_moved (value_count c.self.inside.catalog.value) in_mask c.self.inside.lists.masks c.self.inside.loads.loads c.remove.new.self.loads moved masked,
        listed_moved (value_count c.self.inside.catalog.value) (in_key (value_count c.self.inside.catalog.value)) c.self.inside.lists.cells c.self.inside.loads.loads c.remove.new.self.loads moved listed,
        All-permutation (λ (k : KeptOf). IsTrue (is_header k.body.header)) c.self.inside.loads.loads c.remove.new.self.loads moved formed,
      ),
      omega (arith, room, c.remove.ensures.places),
    )

pub invariant_of-self-2 : goal.invariant_of-self-2
invariant_of-self-2 c =
    let ((masked, listed, formed), room) = c.self.invariant in
    let kept = kept_in c.self.inside.loads.flushed c.in_ok-kept.kept in
    let found = sym c.remove.ensures.taken ∙ ap (option_map (kept_in c.self.inside.loads.flushed)) c.in_ok-kept.was in (
      (
        listed_left (value_count c.self.inside.catalog.value) in_mask c.self.inside.lists.masks c.remove-2.new.self.masks c.self.inside.loads.loads c.args.load kept c.numbers_differ.ensures found (rw c.header.ensures.value at c.remove-2.ensures.masks) masked c.remove.new.self.loads c.remove.ensures.left,
        listed_left (value_count c.self.inside.catalog.value) (in_key (value_count c.self.inside.catalog.value)) c.self.inside.lists.cells c.remove-2.new.self.cells c.self.inside.loads.loads c.args.load kept c.numbers_differ.ensures found (rw (c.deref.ensures, c.header.ensures.value) at c.remove-2.ensures.cells) listed c.remove.new.self.loads c.remove.ensures.left,
        All-permutation (λ (k : KeptOf). IsTrue (is_header k.body.header)) (others c.args.load c.self.inside.loads.loads) c.remove.new.self.loads c.remove.ensures.left
            (All-filter (λ (k : KeptOf). not (k.load == c.args.load)) (λ (k : KeptOf). IsTrue (is_header k.body.header)) c.self.inside.loads.loads formed),
      ),
      omega (arith, room, c.remove.ensures.places),
    )

pub returns-clause-left : goal.returns-clause-left
returns-clause-left c = rw (← c.self.view_is) c.remove.ensures.left

pub returns-clause-places : goal.returns-clause-places
returns-clause-places c =
    rw (← c.self.view_is) (places_stay c.self.inside.catalog.value c.self.inside.loads c.remove.new.self c.self.inside.places c.self.inside.places c.self.inside.lists.masks c.remove-2.new.self.masks c.self.inside.lists.cells c.remove-2.new.self.cells (omega arith)
    (λ q. let same = c.remove-2.ensures.masks.places q in omega (arith, same)) (λ q. let same = c.remove-2.ensures.cells.places q in omega (arith, same)))
