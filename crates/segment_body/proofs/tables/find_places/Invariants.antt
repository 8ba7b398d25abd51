-- What holds at each turn of `find_places`.
use Rattle.std.proofs.Common.{◌≡◌, take}
use Rattle.segment_body.specs.Tables.{places_of}
use Rattle.segment_body.proofs.tables.find_places.Given as goal

abbrev pub invariant-loop-i : goal.invariant-loop-i
invariant-loop-i l = take l.i l.places ≡ places_of l.columns (take l.i l.some)
