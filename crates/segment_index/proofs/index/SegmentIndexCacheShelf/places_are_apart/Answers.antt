-- That a place that is not needed hinders no other.
use Rattle.segment_index.proofs.PlaceFacts.{places_apart}
use Rattle.segment_index.proofs.index.SegmentIndexCacheShelf.places_are_apart.Goals as goal

pub returns-clause-apart : goal.returns-clause-apart
returns-clause-apart c = places_apart c.args.self.now
