-- What holds at each turn of `boxes_of`.
use Rattle.std.proofs.Common.{◌≡◌, map}
use Rattle.query_meaning.specs.RegionMeaning.{member_box}
use Rattle.region_algebra.proofs.members.boxes_of.Given as goal

abbrev pub invariant-loop-member : goal.invariant-loop-member
invariant-loop-member l = l.boxes.items ≡ map (member_box l.catalog) l.yielded
