-- What holds at each turn of `file_columns`.
use Rattle.std.proofs.Common.{◌≡◌, take}
use Rattle.agg_tables.specs.Files.{file_columns}
use Rattle.agg_tables.proofs.file.file_columns.Given as goal

-- the measures so far have their columns
abbrev pub invariant-loop-own : goal.invariant-loop-own
invariant-loop-own l = l.columns.items ≡ file_columns (take l.own-index l.measures)
