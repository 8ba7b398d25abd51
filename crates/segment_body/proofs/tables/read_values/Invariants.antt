-- What holds at each turn of `read_values`.
use Rattle.std.proofs.Common.{◌≡◌, map, take}
use Rattle.segment_body.proofs.tables.read_values.Given as goal

abbrev pub invariant-loop-i : goal.invariant-loop-i
invariant-loop-i l = take l.i l.key ≡ map (λ pair. pair.1) (take l.i l.at)
