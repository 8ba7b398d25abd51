-- What holds at each turn of `refuse_sum`.
use Rattle.std.proofs.Common.{◌≡◌, ◌≤◌, drop}
use Rattle.query_meaning.specs.declared.TheConstants.{BOX_LIMIT}
use Rattle.query_meaning.specs.RegionMeaning.{box_counts, many_united}
use Rattle.region_algebra.proofs.limits.refuse_sum.Given as goal

abbrev pub invariant-loop-part : goal.invariant-loop-part
invariant-loop-part l = (l.sum ≤ BOX_LIMIT) × (many_united 0 (box_counts l.parts) ≡ many_united l.sum (box_counts (drop l.part-index l.parts)))
