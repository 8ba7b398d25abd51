-- What holds at each turn of `are_rising`.
use Rattle.std.proofs.Common.{◌≡◌, ◌-◌, drop, map}
use Rattle.olap_meaning.specs.Legal.{rise}
use Rattle.segment_header.proofs.values.are_rising.Given as goal

-- what is left decides
abbrev pub invariant-loop-i : goal.invariant-loop-i
invariant-loop-i l = rise (map (λ value. value) (drop (l.i - 1) l.values)) ≡ rise l.values
