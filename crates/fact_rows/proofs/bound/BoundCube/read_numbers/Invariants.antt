-- What holds at each turn of `read_numbers`.
use Rattle.std.proofs.Common.{◌≡◌, ◌++◌, drop, map}
use Rattle.fact_rows.specs.BatchFiles.{number_columns, number_fault, numbers_in}
use Rattle.fact_rows.proofs.bound.BoundCube.read_numbers.Given as goal

abbrev pub invariant-loop-column : goal.invariant-loop-column
invariant-loop-column l = record {
  rest_faults : number_fault l.self.header l.n l.row (map (λ column. column.name) (drop l.column-index l.column-items)) ≡ number_fault l.self.header l.n l.row (number_columns l.self.catalog l.self.cube);
  rest_numbers : l.numbers.items ++ numbers_in l.self.header l.row (map (λ column. column.name) (drop l.column-index l.column-items)) ≡ numbers_in l.self.header l.row (number_columns l.self.catalog l.self.cube);
}
