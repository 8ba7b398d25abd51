-- What holds at each turn of `some_cover`.
use Rattle.std.proofs.Common.{◌≡◌, take}
use Rattle.std.specs.List.{list_any}
use Rattle.cache_flush.specs.Anchors.{covers_after}
use Rattle.cache_flush.specs.Records.{passes_at}
use Rattle.cache_flush.proofs.anchors.some_cover.Given as goal

-- what is left decides
abbrev pub invariant-loop-i : goal.invariant-loop-i
invariant-loop-i l =
    list_any (passes_at (covers_after l.place l.cell) l.records) (take l.i l.positions) ≡ list_any (passes_at (covers_after l.place l.cell) l.records) l.positions
