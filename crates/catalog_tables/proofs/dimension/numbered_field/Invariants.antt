-- What holds at each turn of `numbered_field`.
use Rattle.std.proofs.Common.{◌≡◌, ◌≤◌, ◌++◌, drop, length}
use Rattle.catalog_tables.specs.Tables.{texts_at}
use Rattle.catalog_tables.proofs.dimension.numbered_field.Given as goal

abbrev pub invariant-loop-row : goal.invariant-loop-row
invariant-loop-row l = record {
  rest : l.column ++ texts_at l.field (drop l.row-index l.rows) ≡ texts_at l.field l.rows;
  room : length l.column ≤ l.row-index;
}
