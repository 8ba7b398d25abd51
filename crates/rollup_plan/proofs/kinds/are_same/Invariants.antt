-- What is left decides.
use Rattle.std.proofs.Common.{◌≡◌, ◌-◌, bytes_eq, drop, length, map}
use Rattle.rollup_plan.proofs.kinds.are_same.Given as goal

-- what is left decides
abbrev pub invariant-loop-i : goal.invariant-loop-i
invariant-loop-i l = bytes_eq (map (λ own. own.0) (drop l.i l.columns)) (map (λ own. own.0) (drop l.i l.others)) ≡ bytes_eq (map (λ own. own.0) l.columns) (map (λ own. own.0) l.others)

abbrev pub decreases-loop-i : goal.decreases-loop-i
decreases-loop-i l = length l.columns - l.i
