-- What the loop of `place_children` keeps: the children so far are added.
use Rattle.std.proofs.Common.{◌≡◌, ◌++◌, map, take}
use Rattle.member_trees.specs.Numbered.{placed_child}
use Rattle.member_trees.proofs.rows.place_children.Given as goal

abbrev pub invariant-loop-number : goal.invariant-loop-number
invariant-loop-number l =
    l.placed.items ≡ l.initial.placed.items ++ map (placed_child l.place) (take l.number-index l.children)
