-- What holds at each turn of `trace_of`.
use Rattle.std.proofs.Common.{◌≡◌, take}
use Rattle.segment_body.proofs.tallies.trace_of.Given as goal

abbrev pub invariant-loop-i : goal.invariant-loop-i
invariant-loop-i l = l.trace.items ≡ take l.i l.cells
