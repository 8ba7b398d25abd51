-- What holds at each turn of `has_empty`.
use Rattle.std.proofs.Common.{◌≡◌, drop}
use Rattle.std.specs.List.{list_any}
use Rattle.olap_meaning.specs.Records.{is_null}
use Rattle.dim_tables.specs.Bound.{fields_at}
use Rattle.dim_tables.proofs.bound.has_empty.Given as goal

abbrev pub invariant-loop-place : goal.invariant-loop-place
invariant-loop-place l = list_any is_null (fields_at (drop l.place-index l.places) l.row) ≡ list_any is_null (fields_at l.places l.row)
