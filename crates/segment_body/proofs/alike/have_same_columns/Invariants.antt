-- What holds at each turn of `have_same_columns`, and what falls at each of them.
use Rattle.std.proofs.Common.{◌≡◌, ◌-◌, bytes_eq, drop, length, map}
use Rattle.segment_body.proofs.alike.have_same_columns.Given as goal

-- what is left decides
abbrev pub invariant-loop-i : goal.invariant-loop-i
invariant-loop-i l = bytes_eq (map (λ pair. pair.0) (drop l.i l.at)) (map (λ pair. pair.0) (drop l.i l.other)) ≡ bytes_eq (map (λ pair. pair.0) l.at) (map (λ pair. pair.0) l.other)

abbrev pub decreases-loop-i : goal.decreases-loop-i
decreases-loop-i l = length l.other - l.i
