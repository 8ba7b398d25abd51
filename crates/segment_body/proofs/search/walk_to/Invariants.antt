-- What holds at each turn of `walk_to`.
use Rattle.std.proofs.Common.{◌≡◌, None, bytes_eq, map, take}
use Rattle.std.specs.Prelude.{position}
use Rattle.segment_body.proofs.search.walk_to.Given as goal

-- none so far has the values
abbrev pub invariant-loop-i : goal.invariant-loop-i
invariant-loop-i l = position (λ group. bytes_eq (map (λ pair. pair.1) l.at) group.values) (take l.i l.groups) ≡ None
