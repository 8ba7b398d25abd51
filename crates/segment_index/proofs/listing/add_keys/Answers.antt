-- That `add_keys` has a place for each key, and puts the load there.
use Rattle.std.proofs.Common.{rules}
use Rattle.olap_meaning.specs.Rolled.{value_count}
use Rattle.segment_index.specs.Keys.{key_count}
use Rattle.segment_index.proofs.TallyFacts.{added_next, needs_place}
use Rattle.segment_index.proofs.listing.add_keys.Goals as goal

pub add-requires : goal.add-requires
add-requires c =
    rw c.key_at.ensures (needs_place (value_count c.args.catalog.now) c.args.header.now c.loop-number.number _ _ (key_count (value_count c.args.catalog.now) c.args.header.now) (search rules) c.requires c.loop-number.invariant.places)

pub loop-number-preserved : goal.loop-number-preserved
loop-number-preserved c =
    added_next (value_count c.args.catalog.now) c.args.header.now c.loop-number.number _ _ _ c.args.load c.loop-number.invariant (rw c.key_at.ensures at c.add.ensures)
