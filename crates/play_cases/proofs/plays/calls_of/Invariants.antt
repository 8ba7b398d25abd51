-- Each call so far may be made.
use Rattle.std.proofs.Common.{All}
use Rattle.manager_calls.specs.Runs.{MayCall}
use Rattle.play_cases.proofs.plays.calls_of.Given as goal

-- each call so far may be made
abbrev pub invariant-loop-line : goal.invariant-loop-line
invariant-loop-line g l = All (MayCall l.catalog) l.calls
