-- What holds at each turn of `add_boxes`.
use Rattle.std.proofs.Common.{◌≡◌, ◌++◌, take}
use Rattle.region_algebra.proofs.copies.add_boxes.Given as goal

abbrev pub invariant-loop-one : goal.invariant-loop-one
invariant-loop-one l = l.boxes ≡ l.initial.boxes ++ take l.one-index l.more
