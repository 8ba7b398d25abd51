-- What holds at each turn of `release_places`.
use Rattle.std.proofs.Common.{◌≡◌, ◌++◌, List, drop, map}
use Rattle.olap_meaning.specs.declared.cells.Header.{Header}
use Rattle.segment_index.specs.Index.{has_places}
use Rattle.cache_manager.proofs.starts.release_places.Given as goal

-- the places of the loads that are left are there
abbrev pub invariant-loop-planned : goal.invariant-loop-planned
invariant-loop-planned l = record {
  loads : l.shelf.loads ≡ l.initial.shelf.loads;
  flushed : l.shelf.flushed ≡ l.initial.shelf.flushed;
  kept : (headers : List Header) → has_places l.initial.shelf (headers ++ map (λ planned. planned.flight.header) l.plans) → has_places l.shelf (headers ++ map (λ planned. planned.flight.header) (drop l.planned-index l.plans));
}
