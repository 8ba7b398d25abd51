-- That `release_first` has a place under each key, and gives it back.
use Rattle.std.proofs.Common.{rules}
use Rattle.olap_meaning.specs.Rolled.{value_count}
use Rattle.segment_index.proofs.TallyFacts.{needs_place}
use Rattle.segment_index.proofs.listing.release_first.Goals as goal

pub release-requires : goal.release-requires
release-requires c =
    rw c.key_at.ensures (needs_place (value_count c.args.catalog.now) c.args.header.now c.loop-number.number _ _ c.args.count (search rules) c.requires c.loop-number.invariant.places)
