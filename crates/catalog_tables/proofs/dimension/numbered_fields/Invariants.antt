-- What holds at each turn of `numbered_fields`.
use Rattle.std.proofs.Common.{◌≡◌, ◌-◌, ◌++◌}
use Rattle.catalog_tables.specs.Tables.{columns_from}
use Rattle.catalog_tables.proofs.dimension.numbered_fields.Given as goal

abbrev pub invariant-loop-field : goal.invariant-loop-field
invariant-loop-field l = l.columns ++ columns_from l.rows l.field (l.levels - l.field) ≡ columns_from l.rows 0 l.levels
