-- What is kept are the levels so far, each once.
use Rattle.std.proofs.Common.{◌≡◌, []}
use Rattle.cube_schema.specs.Aggregates.{first_levels}
use Rattle.cube_schema.proofs.aggregate_levels.first_levels.Given as goal

abbrev pub invariant-loop-level : goal.invariant-loop-level
invariant-loop-level l = l.kept ≡ first_levels [] l.yielded
