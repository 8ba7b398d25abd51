-- What holds at each turn of `check_each`, and what falls at each of them.
use Rattle.std.proofs.Common.{◌≡◌, ◌≤◌, [], length}
use Rattle.olap_meaning.specs.declared.TheConstants.{ROW_LIMIT}
use Rattle.agg_tables.specs.Files.{records_fault}
use Rattle.fact_reader.specs.BodyRows.{values_in}
use Rattle.agg_tables.specs.Tables.{table_columns}
use Rattle.agg_tables.proofs.RightFacts.{AreSeen}
use Rattle.agg_tables.proofs.checker.Checker.check_each.Given as goal

-- the faults of the records that are left, after those that were seen, are those of all
abbrev pub invariant-loop-n : goal.invariant-loop-n
invariant-loop-n l = record {
  rest : records_fault l.self.file.catalog l.self.file.declared l.self.file.header l.self.rows (values_in l.seen) l.rows ≡ records_fault l.self.file.catalog l.self.file.declared l.self.file.header l.self.rows [] l.initial.rows;
  counted : l.count ≡ length l.seen.rows;
  seen : AreSeen l.self.file.catalog l.self.file.declared l.self.file.header l.self.rows (values_in l.seen);
  within : l.count ≤ ROW_LIMIT;
  columns : l.seen.header.columns ≡ table_columns l.self.file.catalog l.self.file.declared;
}

abbrev pub decreases-loop-n : goal.decreases-loop-n
decreases-loop-n l = length l.rows
