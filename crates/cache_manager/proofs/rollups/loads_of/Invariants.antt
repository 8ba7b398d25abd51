-- The loads so far are those of the first parts.
use Rattle.std.proofs.Common.{◌≡◌, map, take}
use Rattle.cache_manager.proofs.rollups.loads_of.Given as goal

abbrev pub invariant-loop-part : goal.invariant-loop-part
invariant-loop-part l = l.loads.items ≡ map (λ part. part.load) (take l.part-index l.plan.parts)
