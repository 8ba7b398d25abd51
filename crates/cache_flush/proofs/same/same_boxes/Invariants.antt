-- What holds at each turn of `same_boxes`.
use Rattle.std.proofs.Common.{◌≡◌, drop}
use Rattle.cache_flush.proofs.same.same_boxes.Given as goal

-- what is left decides
abbrev pub invariant-loop-i : goal.invariant-loop-i
invariant-loop-i l = drop l.i l.one ≡ drop l.i l.other → l.one ≡ l.other
