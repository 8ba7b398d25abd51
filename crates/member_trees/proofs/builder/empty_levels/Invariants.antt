-- What the loop of `empty_levels` keeps.
use Rattle.std.proofs.Common.{◌≡◌, [], replicate}
use Rattle.member_trees.proofs.builder.empty_levels.Given as goal

abbrev pub invariant-loop : goal.invariant-loop
invariant-loop l = l.levels.items ≡ replicate l.counter []
