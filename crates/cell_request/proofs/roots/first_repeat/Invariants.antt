-- What holds at each turn of `first_repeat`.
use Rattle.std.proofs.Common.{◌≡◌, drop, reverse, take}
use Rattle.query_meaning.specs.Resolution.{first_repeat, repeat_after}
use Rattle.cell_request.proofs.roots.first_repeat.Given as goal

abbrev pub invariant-loop-i : goal.invariant-loop-i
invariant-loop-i l = first_repeat l.roots ≡ repeat_after (reverse (take l.i l.roots)) (drop l.i l.roots)
