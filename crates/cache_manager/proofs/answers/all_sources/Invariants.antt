-- The sources so far are those that were found.
use Rattle.std.proofs.Common.{◌≡◌, map, take}
use Rattle.cache_manager.specs.Found.{source_found}
use Rattle.cache_manager.proofs.answers.all_sources.Given as goal

abbrev pub invariant-loop-hit : goal.invariant-loop-hit
invariant-loop-hit l = l.sources ≡ map (source_found l.rollups) (take l.hit-index l.hits)
