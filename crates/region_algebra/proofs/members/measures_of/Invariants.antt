-- What holds at each turn of `measures_of`.
use Rattle.std.proofs.Common.{◌≡◌}
use Rattle.std.specs.List.{range_with_len}
use Rattle.region_algebra.proofs.members.measures_of.Given as goal

abbrev pub invariant-loop-i : goal.invariant-loop-i
invariant-loop-i l = l.measures ≡ range_with_len 0 l.i
