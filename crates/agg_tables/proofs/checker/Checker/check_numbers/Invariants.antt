-- What holds at each turn of `check_numbers`.
use Rattle.std.proofs.Common.{◌≡◌, drop}
use Rattle.agg_tables.specs.Checks.{numbers_fault}
use Rattle.agg_tables.specs.Files.{file_columns}
use Rattle.agg_tables.proofs.checker.Checker.check_numbers.Given as goal

-- the faults of the columns that are left are those of all
abbrev pub invariant-loop-j : goal.invariant-loop-j
invariant-loop-j l = numbers_fault l.self l.row l.n l.values (drop l.j (file_columns l.self.file.declared.measures)) ≡ numbers_fault l.self l.row l.n l.values (file_columns l.self.file.declared.measures)
