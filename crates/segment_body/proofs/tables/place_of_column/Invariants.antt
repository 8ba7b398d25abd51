-- What holds at each turn of `place_of_column`, and what falls at each of them.
use Rattle.std.proofs.Common.{◌≡◌, ◌+◌, ◌-◌, drop, length}
use Rattle.std.specs.Prelude.{◌==◌}
use Rattle.std.specs.List.{position_or_len}
use Rattle.segment_body.proofs.tables.place_of_column.Given as goal

-- the column is not among those so far
abbrev pub invariant-loop-place : goal.invariant-loop-place
invariant-loop-place l = l.place + position_or_len (λ own. own.0 == l.fn.column) (drop l.place l.columns) ≡ position_or_len (λ own. own.0 == l.fn.column) l.columns

abbrev pub decreases-loop-place : goal.decreases-loop-place
decreases-loop-place l = length l.columns - l.place
