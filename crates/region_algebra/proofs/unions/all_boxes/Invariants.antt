-- What holds at each turn of `all_boxes`.
use Rattle.std.proofs.Common.{◌≡◌, flat_map}
use Rattle.olap_meaning.specs.declared.regions.Region.{Region}
use Rattle.region_algebra.proofs.unions.all_boxes.Given as goal

abbrev pub invariant-loop-part : goal.invariant-loop-part
invariant-loop-part l = l.boxes.items ≡ flat_map (λ (part : Region). part.boxes) l.yielded
