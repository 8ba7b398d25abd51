-- What holds at each turn of `levels_of`.
use Rattle.std.proofs.Common.{◌≡◌, take}
use Rattle.agg_tables.specs.Declarations.{levels_of}
use Rattle.agg_tables.proofs.find.levels_of.Given as goal

-- the levels so far are found
abbrev pub invariant-loop-level : goal.invariant-loop-level
invariant-loop-level l = l.found ≡ levels_of l.catalog l.cube (take l.level-index l.levels)
