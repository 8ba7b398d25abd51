-- What holds at each turn of `add_pieces_to_each`.
use Rattle.std.proofs.Common.{◌≡◌, ◌+◌, length, map, take}
use Rattle.fact_reader.specs.BodyRows.{rows_in, with_rows}
use Rattle.fact_reader.proofs.each.add_pieces_to_each.Given as goal

-- the pieces so far are added and counted
abbrev pub invariant-loop-i : goal.invariant-loop-i
invariant-loop-i g l = record {
  added : l.bodies ≡ map (with_rows l.catalog (rows_in (take l.i l.snapshot))) l.initial.bodies;
  counted : l.steps ≡ l.initial.steps + length (rows_in (take l.i l.snapshot));
}
