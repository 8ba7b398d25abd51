-- What holds at each turn of `count_of`.
use Rattle.std.proofs.Common.{◌≡◌, map, min, sum, take}
use Rattle.query_meaning.specs.Resolution.{most_told}
use Rattle.cell_request.proofs.braces.count_of.Given as goal

abbrev pub invariant-loop-item : goal.invariant-loop-item
invariant-loop-item l = l.count ≡ min (sum (map (λ item. item.part.count) (take l.item-index l.items))) most_told
