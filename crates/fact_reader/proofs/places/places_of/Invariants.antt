-- What holds at each turn of `places_of`.
use Rattle.std.proofs.Common.{◌≡◌, Some, length, map, take}
use Rattle.std.specs.Vec.{vec_len, vec_capacity}
use Rattle.fact_reader.specs.Reading.{place_of}
use Rattle.fact_reader.proofs.places.places_of.Given as goal

-- the columns so far have their places, and there is room for those of the others
abbrev pub invariant-loop-column : goal.invariant-loop-column
invariant-loop-column l =
    record {
      placed : map Some l.places.items ≡ map (λ column. place_of l.catalog l.header.cube column.0) (take l.column-index l.columns);
      len : vec_len l.places ≡ l.column-index;
      room : vec_capacity l.places ≡ length l.columns;
    }
