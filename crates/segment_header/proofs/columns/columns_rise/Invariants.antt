-- Where the columns so far rise, what is left decides.
use Rattle.std.proofs.Common.{◌≡◌, ◌-◌, drop, map}
use Rattle.olap_meaning.specs.Legal.{rise}
use Rattle.segment_header.proofs.columns.columns_rise.Given as goal

abbrev pub invariant-loop-i : goal.invariant-loop-i
invariant-loop-i g l = rise (map (λ column. column.0) (drop (l.i - 1) l.columns)) ≡ rise (map (λ column. column.0) l.columns)
