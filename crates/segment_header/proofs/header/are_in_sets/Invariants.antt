-- What holds at each turn of `are_in_sets`, and what falls at each of them.
use Rattle.std.proofs.Common.{◌≡◌, ◌-◌, drop, length}
use Rattle.std.specs.List.{list_all, zip}
use Rattle.olap_meaning.specs.Covering as covering
use Rattle.segment_header.proofs.header.are_in_sets.Given as goal

-- what is left decides
abbrev pub invariant-loop-i : goal.invariant-loop-i
invariant-loop-i l =
    list_all (λ own. covering.allows own.0.1 own.1) (zip (drop l.i l.columns) (drop l.i l.values)) ≡ list_all (λ own. covering.allows own.0.1 own.1) (zip l.columns l.values)

abbrev pub decreases-loop-i : goal.decreases-loop-i
decreases-loop-i l = length l.columns - l.i
