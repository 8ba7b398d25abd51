-- What holds at each turn of `evict`: some loads were evicted, and the others are kept.
use Rattle.std.proofs.Common.{◌≡◌, ◌≤◌, ◌+◌, ◌++◌, ℕ, IsTrue, List, length, map}
use Rattle.olap_meaning.specs.declared.cells.Header.{Header}
use Rattle.olap_meaning.specs.Budget.{may_evict}
use Rattle.olap_meaning.specs.History.{Evict}
use Rattle.segment_index.specs.Index.{has_places}
use Rattle.cache_manager.specs.Rollups.{AreKept}
use Rattle.cache_manager.proofs.evictions.evict.Given as goal

abbrev pub invariant-loop-history : goal.invariant-loop-history
invariant-loop-history l = record {
  setting : l.history.setting ≡ l.initial.history.setting;
  evicted : (loads : List ℕ) × (l.history.entries ≡ l.initial.history.entries ++ map Evict loads);
  kept : AreKept l.history.setting.catalog l.history.entries l.shelf.loads;
  room : length l.shelf.loads ≤ l.history.spare;
  after : IsTrue (may_evict l.history.entries);
  flushed : l.shelf.flushed ≡ l.initial.shelf.flushed;
  spare : l.history.spare + length l.initial.shelf.loads ≡ l.initial.history.spare + length l.shelf.loads;
  places : (headers : List Header) → has_places l.initial.shelf headers → has_places l.shelf headers;
}

abbrev pub decreases-loop-history : goal.decreases-loop-history
decreases-loop-history l = length l.shelf.loads
