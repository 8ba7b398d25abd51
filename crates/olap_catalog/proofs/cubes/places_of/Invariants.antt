-- What holds at each turn of `places_of`.
use Rattle.std.proofs.Common.{◌≡◌, ◌++◌, drop, filter_map}
use Rattle.olap_meaning.specs.Schema.{dimension_place}
use Rattle.olap_catalog.proofs.cubes.places_of.Given as goal

abbrev pub invariant-loop-used : goal.invariant-loop-used
invariant-loop-used l = l.places ++ filter_map (λ used. dimension_place l.dimensions used.source) (drop l.used-index l.uses) ≡ filter_map (λ used. dimension_place l.dimensions used.source) l.uses
