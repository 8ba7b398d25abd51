-- What holds at each turn of `copies_crossed`.
use Rattle.std.proofs.Common.{◌≡◌, take}
use Rattle.query_meaning.specs.RegionMeaning.{crossed_boxes}
use Rattle.region_algebra.proofs.boxes.copies_crossed.Given as goal

abbrev pub invariant-loop-first : goal.invariant-loop-first
invariant-loop-first l = l.boxes ≡ crossed_boxes (take l.first-index l.firsts) l.seconds
