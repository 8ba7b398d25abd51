-- What holds at each turn of `take_groups`.
use Rattle.std.proofs.Common.{◌≡◌, map, take}
use Rattle.std.specs.Prelude.{option_copied}
use Rattle.segment_body.specs.Tables.{are_taken, grown, passes}
use Rattle.segment_body.proofs.tables.take_groups.Given as goal

-- the table has taken the groups so far
abbrev pub invariant-loop-i : goal.invariant-loop-i
invariant-loop-i l = l.table ≡ map (grown (are_taken l.places (passes l.columns l.column (option_copied l.own))) (take l.i l.groups)) l.fn.table
