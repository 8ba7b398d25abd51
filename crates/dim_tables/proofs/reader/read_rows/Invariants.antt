-- What holds at each turn of `read_rows`, and what falls at each of them.
use Rattle.std.proofs.Common.{◌≡◌, [], length}
use Rattle.olap_meaning.specs.Schema.{levels_of}
use Rattle.dim_tables.specs.TableFiles.{records_with}
use Rattle.dim_tables.proofs.reader.read_rows.Given as goal

abbrev pub invariant-loop-row : goal.invariant-loop-row
invariant-loop-row l = record {
  rest : records_with l.bound.dimension l.bound.header l.table.records l.rows ≡ records_with l.bound.dimension l.bound.header [] l.initial.rows;
  wide : l.table.levels ≡ length (levels_of l.bound.dimension);
}

abbrev pub decreases-loop-row : goal.decreases-loop-row
decreases-loop-row l = length l.rows
