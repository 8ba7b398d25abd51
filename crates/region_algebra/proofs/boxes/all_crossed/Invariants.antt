-- What holds at each turn of `all_crossed`.
use Rattle.std.proofs.Common.{◌≡◌}
use Rattle.query_meaning.specs.RegionMeaning.{all_crossed}
use Rattle.region_algebra.proofs.boxes.all_crossed.Given as goal

abbrev pub invariant-loop-part : goal.invariant-loop-part
invariant-loop-part l = l.boxes ≡ all_crossed l.yielded
