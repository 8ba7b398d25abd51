-- What holds at each turn of `root_names_of`.
use Rattle.std.proofs.Common.{◌≡◌, take, map}
use Rattle.olap_catalog.specs.Roots.{root_names_in}
use Rattle.olap_catalog.proofs.cubes.root_names_of.Given as goal

abbrev pub invariant-loop-ids : goal.invariant-loop-ids
invariant-loop-ids l = l.names ≡ map (root_names_in l.full_names) (take l.ids-index l.roots)
