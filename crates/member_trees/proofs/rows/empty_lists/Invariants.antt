-- What the loop of `empty_lists` keeps.
use Rattle.std.proofs.Common.{◌≡◌, [], replicate}
use Rattle.member_trees.proofs.rows.empty_lists.Given as goal

abbrev pub invariant-loop : goal.invariant-loop
invariant-loop l = l.lists.items ≡ replicate l.counter []
