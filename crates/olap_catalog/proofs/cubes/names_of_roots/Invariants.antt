-- What holds at each turn of `names_of_roots`.
use Rattle.std.proofs.Common.{◌≡◌, take}
use Rattle.olap_catalog.specs.Roots.{root_names_in}
use Rattle.olap_catalog.proofs.cubes.names_of_roots.Given as goal

abbrev pub invariant-loop-id : goal.invariant-loop-id
invariant-loop-id l = l.names ≡ root_names_in l.full_names (take l.id-index l.ids)
