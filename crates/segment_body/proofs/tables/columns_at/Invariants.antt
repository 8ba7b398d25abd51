-- What holds at each turn of `columns_at`.
use Rattle.std.proofs.Common.{◌≡◌, map, take}
use Rattle.segment_body.proofs.tables.columns_at.Given as goal

abbrev pub invariant-loop-i : goal.invariant-loop-i
invariant-loop-i l = l.columns ≡ map (λ pair. pair.0) (take l.i l.at)
