-- What holds at each turn of `reserve_places`.
use Rattle.std.proofs.Common.{◌≡◌, ◌++◌, List, map, take}
use Rattle.olap_meaning.specs.declared.cells.Header.{Header}
use Rattle.segment_index.specs.Index.{has_places}
use Rattle.cache_manager.proofs.starts.reserve_places.Given as goal

-- the loads so far have places
abbrev pub invariant-loop-made : goal.invariant-loop-made
invariant-loop-made l = record {
  loads : l.shelf.loads ≡ l.initial.shelf.loads;
  flushed : l.shelf.flushed ≡ l.initial.shelf.flushed;
  kept : (headers : List Header) → has_places l.initial.shelf headers → has_places l.shelf headers;
  places : (headers : List Header) → has_places l.initial.shelf headers → has_places l.shelf (headers ++ map (λ planned. planned.flight.header) (take l.made l.plans));
}
