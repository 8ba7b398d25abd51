-- What holds at each turn of `measures_of`.
use Rattle.std.proofs.Common.{◌≡◌, take}
use Rattle.agg_tables.specs.Declarations.{measures_of}
use Rattle.agg_tables.proofs.find.measures_of.Given as goal

-- the measures so far are found
abbrev pub invariant-loop-declared : goal.invariant-loop-declared
invariant-loop-declared l = l.found ≡ measures_of l.cube (take l.declared-index l.measures)
