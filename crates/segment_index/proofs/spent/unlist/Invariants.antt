-- What holds at each turn of `unlist`.
use Rattle.std.proofs.Common.{◌≡◌, ℕ}
use Rattle.olap_meaning.specs.Rolled.{value_count}
use Rattle.segment_index.specs.Grouping.{places_at}
use Rattle.segment_index.specs.Keeping.{AreKept}
use Rattle.segment_index.proofs.spent.unlist.Given as goal

abbrev pub invariant-loop-number : goal.invariant-loop-number
invariant-loop-number l =
    AreKept (value_count l.catalog) l.lists.masks l.lists.cells l.loads.loads
    × ((q : ℕ) → places_at l.lists.masks q ≡ places_at l.fn.lists.masks q)
    × ((q : ℕ) → places_at l.lists.cells q ≡ places_at l.fn.lists.cells q)
