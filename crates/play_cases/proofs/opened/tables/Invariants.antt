-- The tables so far have the levels of their dimensions.
use Rattle.std.proofs.Common.{◌≡◌, length, map, take}
use Rattle.olap_meaning.specs.Schema.{levels_of}
use Rattle.play_cases.proofs.opened.tables.Given as goal

abbrev pub invariant-loop-dimension : goal.invariant-loop-dimension
invariant-loop-dimension l = map (λ t. t.levels) l.tables ≡ map (λ d. length (levels_of d)) (take l.dimension l.schema.dimensions)
