-- What holds at each turn of `read_leaves`.
use Rattle.std.proofs.Common.{◌≡◌, ◌++◌, drop, map}
use Rattle.fact_rows.specs.BatchFiles.{foreign_keys, key_fault, leaves_in}
use Rattle.fact_rows.specs.Bound.{key_pair}
use Rattle.fact_rows.proofs.bound.BoundCube.read_leaves.Given as goal

abbrev pub invariant-loop-key : goal.invariant-loop-key
invariant-loop-key l = record {
  rest_faults : key_fault l.self.catalog l.self.header l.n l.row (map key_pair (drop l.key-index l.key-items)) ≡ key_fault l.self.catalog l.self.header l.n l.row (foreign_keys l.self.catalog l.self.cube);
  rest_leaves : l.leaves.items ++ leaves_in l.self.catalog l.self.header l.row (map key_pair (drop l.key-index l.key-items)) ≡ leaves_in l.self.catalog l.self.header l.row (foreign_keys l.self.catalog l.self.cube);
}
