-- What holds at each turn of `place_among`.
use Rattle.std.proofs.Common.{◌≡◌, ◌≤◌, false, bytes_eq, length, take, map}
use Rattle.std.specs.List.{list_any}
use Rattle.olap_meaning.specs.Catalog.{first_appearances}
use Rattle.fact_reader.proofs.places.place_among.Given as goal

-- the different columns so far are counted, and the column is none of them
abbrev pub invariant-loop-i : goal.invariant-loop-i
invariant-loop-i l = record {
  counted : l.place ≡ length (first_appearances (map (λ measure. measure.column) (take l.i l.measures)));
  unseen : list_any (bytes_eq l.column) (map (λ measure. measure.column) (take l.i l.measures)) ≡ false;
  within : l.place ≤ l.i;
}
