-- What holds at each turn of `are_columns_of`, and what falls at each of them.
use Rattle.std.proofs.Common.{◌≡◌, ◌-◌, bytes_eq, drop, length, map}
use Rattle.history_core.proofs.kinds.are_columns_of.Given as goal

-- what is left decides
abbrev pub invariant-loop-i : goal.invariant-loop-i
invariant-loop-i l = bytes_eq (drop l.i l.columns) (map (λ pair. pair.0) (drop l.i l.at)) ≡ bytes_eq l.columns (map (λ pair. pair.0) l.at)

abbrev pub decreases-loop-i : goal.decreases-loop-i
decreases-loop-i l = length l.at - l.i
