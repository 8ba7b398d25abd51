-- What holds at each turn of `is_among`.
use Rattle.std.proofs.Common.{◌≡◌, bytes_eq, drop, map}
use Rattle.std.specs.List.{list_any}
use Rattle.fact_rows.proofs.columns.is_among.Given as goal

abbrev pub invariant-loop-column : goal.invariant-loop-column
invariant-loop-column l = list_any (bytes_eq l.name) (map (λ column. column.name) (drop l.column-index l.columns)) ≡ list_any (bytes_eq l.name) (map (λ column. column.name) l.columns)
