-- What holds at each turn of `place_rows`.
use Rattle.std.proofs.Common.{◌≡◌, ◌≤◌, ◌+◌, ◌++◌, All, length, map, take}
use Rattle.segment_body.specs.BodyOf.{different_values}
use Rattle.fact_reader.specs.Blocks.{IsPlacedRow, kept_rows, own_row, valued_rows, with_block}
use Rattle.fact_reader.proofs.reader.RowReader.place_rows.Given as goal

-- the rows so far are read and added
abbrev pub invariant-loop-i : goal.invariant-loop-i
invariant-loop-i l = record {
  few : l.from + length l.block.items ≤ l.i;
  placed : All (IsPlacedRow l.piece (different_values l.body.rows)) l.block.items;
  rows : kept_rows l.self.catalog l.self.header (take l.from l.piece.rows) ++ map (own_row l.piece) (valued_rows (different_values l.body.rows) l.block.items) ≡ kept_rows l.self.catalog l.self.header (take l.i l.piece.rows);
  body : l.body ≡ with_block l.self.catalog l.piece (valued_rows (different_values l.body.rows) l.block.items) l.initial.body;
}
