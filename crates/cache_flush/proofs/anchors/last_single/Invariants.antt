-- What holds at each turn of `last_single`.
use Rattle.std.proofs.Common.{◌≡◌, None, drop}
use Rattle.cache_flush.specs.Anchors as anchors
use Rattle.cache_flush.proofs.anchors.last_single.Given as goal

-- what is left decides
abbrev pub invariant-loop-column : goal.invariant-loop-column
invariant-loop-column l = anchors.last_single l.last (drop l.column-index l.columns) ≡ anchors.last_single None l.columns
