-- The tallies so far are told.
use Rattle.std.proofs.Common.{take}
use Rattle.std.specs.List.{AllZip}
use Rattle.cache_manager.specs.Rollups.{IsToldBy}
use Rattle.cache_manager.proofs.rollups.worth_of.Given as goal

abbrev pub invariant-loop-tally : goal.invariant-loop-tally
invariant-loop-tally l = AllZip (IsToldBy l.version) (take l.tally-index l.tallies) l.answered.items
