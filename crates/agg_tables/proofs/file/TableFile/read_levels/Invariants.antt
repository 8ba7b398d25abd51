-- What holds at each turn of `read_levels`.
use Rattle.std.proofs.Common.{◌≡◌, Some, drop, map, take}
use Rattle.agg_tables.specs.Files.{level_fault, level_value}
use Rattle.agg_tables.proofs.file.TableFile.read_levels.Given as goal

-- the levels so far have their values, and the faults of the others are those of all
abbrev pub invariant-loop-k : goal.invariant-loop-k
invariant-loop-k l = record {
  values : map Some l.found.items ≡ map (level_value l.self.catalog l.self.header l.row) (take l.k l.levels);
  rest_faults : level_fault l.self.catalog l.self.header l.n l.row (drop l.k l.levels) ≡ level_fault l.self.catalog l.self.header l.n l.row l.levels;
}
