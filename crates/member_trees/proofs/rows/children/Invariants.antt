-- What the loop of `children` keeps: the lists of the children among the members so far.
use Rattle.std.proofs.Common.{◌≡◌, map, take}
use Rattle.std.specs.List.{range_with_len}
use Rattle.member_trees.specs.Numbered.{children_of}
use Rattle.member_trees.proofs.rows.children.Given as goal

abbrev pub invariant-loop-number : goal.invariant-loop-number
invariant-loop-number l =
    l.lists.items ≡ map (children_of (take l.number l.members)) (range_with_len 0 l.parents)
