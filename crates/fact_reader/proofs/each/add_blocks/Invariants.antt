-- What holds at each turn of `add_blocks`, and what falls at each of them.
use Rattle.std.proofs.Common.{◌≡◌, ◌≤◌, ◌-◌, length, map, take}
use Rattle.fact_reader.specs.BodyRows.{with_rows}
use Rattle.fact_reader.proofs.each.add_blocks.Given as goal

-- the rows so far are added
abbrev pub invariant-loop-from : goal.invariant-loop-from
invariant-loop-from l = record {
  within : l.from ≤ length l.piece.rows;
  first : l.first ≡ with_rows l.catalog (take l.from l.piece.rows) l.initial.first;
  others : l.others ≡ map (with_rows l.catalog (take l.from l.piece.rows)) l.initial.others;
}

abbrev pub decreases-loop-from : goal.decreases-loop-from
decreases-loop-from l = l.rows - l.from
