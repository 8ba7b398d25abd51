-- What holds at each turn of `add_above`.
use Rattle.std.proofs.Common.{◌≡◌, ◌++◌, map, take}
use Rattle.segment_index.specs.Grouping.{loads_above}
use Rattle.segment_index.proofs.groups.add_above.Given as goal

abbrev pub invariant-loop-i : goal.invariant-loop-i
invariant-loop-i l = l.found.items ≡ l.fn.found.items ++ loads_above (map (λ e. (e.0, (e.1.loads.items, e.1.places))) (take l.i l.groups.entries)) l.mask
