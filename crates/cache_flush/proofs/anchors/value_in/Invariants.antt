-- What holds at each turn of `value_in`.
use Rattle.std.proofs.Common.{◌≡◌, drop}
use Rattle.cache_flush.specs.Anchors as anchors
use Rattle.cache_flush.proofs.anchors.value_in.Given as goal

-- what is left decides
abbrev pub invariant-loop-pair : goal.invariant-loop-pair
invariant-loop-pair l = anchors.value_in (drop l.pair-index l.pairs) l.column ≡ anchors.value_in l.pairs l.column
