-- What holds at each turn of `refuse_product`.
use Rattle.std.proofs.Common.{◌≡◌, ◌≤◌, drop}
use Rattle.query_meaning.specs.declared.TheConstants.{BOX_LIMIT}
use Rattle.query_meaning.specs.RegionMeaning.{box_counts, many_crossed}
use Rattle.region_algebra.proofs.limits.refuse_product.Given as goal

abbrev pub invariant-loop-part : goal.invariant-loop-part
invariant-loop-part l = (l.product ≤ BOX_LIMIT) × (many_crossed 1 (box_counts l.parts) ≡ many_crossed l.product (box_counts (drop l.part-index l.parts)))
