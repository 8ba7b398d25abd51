-- What holds at each turn of `measures`.
use Rattle.std.proofs.Common.{◌≡◌, map}
use Rattle.std.specs.List.{range_with_len}
use Rattle.olap_meaning.specs.declared.cells.Member.TheVariants as member
use Rattle.olap_catalog.proofs.catalog.Catalog.measures.Given as goal

abbrev pub invariant-loop-measure : goal.invariant-loop-measure
invariant-loop-measure l = l.members ≡ map member.Measure (range_with_len 0 l.measure)
