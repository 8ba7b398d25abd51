-- What holds at each turn of `choose`.
use Rattle.std.proofs.Common.{◌≡◌, take}
use Rattle.segment_body.specs.Tables.{chosen}
use Rattle.segment_body.proofs.tables.choose.Given as goal

abbrev pub invariant-loop-i : goal.invariant-loop-i
invariant-loop-i l = take l.i l.key ≡ chosen (take l.i l.places) l.values
