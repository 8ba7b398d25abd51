-- What holds at each turn of `measures_of`.
use Rattle.std.proofs.Common.{◌≡◌, take}
use Rattle.olap_catalog.proofs.cubes.measures_of.Given as goal

abbrev pub invariant-loop-measure : goal.invariant-loop-measure
invariant-loop-measure l = l.copies ≡ take l.measure-index l.measures
