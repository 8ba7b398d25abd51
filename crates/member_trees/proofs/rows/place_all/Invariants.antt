-- What the loop of `place_all` keeps: the children of the parents so far.
use Rattle.std.proofs.Common.{◌≡◌, take}
use Rattle.member_trees.specs.Numbered.{placed_children}
use Rattle.member_trees.proofs.rows.place_all.Given as goal

abbrev pub invariant-loop-place : goal.invariant-loop-place
invariant-loop-place l = l.placed.items ≡ placed_children l.children (take l.place l.order)
