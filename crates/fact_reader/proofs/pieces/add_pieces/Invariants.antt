-- What holds at each turn of `add_pieces`.
use Rattle.std.proofs.Common.{◌≡◌, ◌+◌, ◌++◌, drop, length, take}
use Rattle.fact_reader.specs.BodyRows.{body_rows, rows_in}
use Rattle.fact_reader.proofs.pieces.add_pieces.Given as goal

-- the pieces so far are added and counted
abbrev pub invariant-loop-i : goal.invariant-loop-i
invariant-loop-i g l = record {
  added : l.body ≡ record l.initial.body { rows = l.initial.body.rows ++ body_rows l.reader.catalog l.reader.header (rows_in (take l.i (drop l.first l.snapshot))) };
  counted : l.steps ≡ l.initial.steps + length (rows_in (take l.i (drop l.first l.snapshot)));
}
