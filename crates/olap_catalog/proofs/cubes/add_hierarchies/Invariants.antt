-- What holds at each turn of `add_hierarchies`.
use Rattle.std.proofs.Common.{◌≡◌, ◌++◌, ◌==◌, drop, map, filter}
use Rattle.std.specs.List.{enumerate_from}
use Rattle.olap_catalog.specs.Roots.{hierarchies_among}
use Rattle.olap_catalog.proofs.cubes.add_hierarchies.Given as goal

abbrev pub invariant-loop-h : goal.invariant-loop-h
invariant-loop-h l = l.found ++ map (λ p. p.0) (filter (λ p. p.1.dimension == l.dimension) (enumerate_from l.h (drop l.h l.hierarchies))) ≡ l.fn.found ++ hierarchies_among l.hierarchies l.dimension
