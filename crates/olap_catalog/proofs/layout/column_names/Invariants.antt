-- What holds at each turn of `column_names`.
use Rattle.std.proofs.Common.{◌≡◌, take, map}
use Rattle.olap_catalog.specs.Roots.{column_name}
use Rattle.olap_catalog.proofs.layout.column_names.Given as goal

abbrev pub invariant-loop-id : goal.invariant-loop-id
invariant-loop-id l = l.names ≡ map (column_name l.columns) (take l.id-index l.ids)
