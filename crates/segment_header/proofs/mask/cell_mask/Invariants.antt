-- What holds at each turn of `cell_mask`.
use Rattle.std.proofs.Common.{◌≡◌, drop, map, fold}
use Rattle.segment_header.specs.Masks as masks
use Rattle.segment_header.specs.Masks.{with_column}
use Rattle.segment_header.proofs.mask.cell_mask.Given as goal

-- what is left decides
abbrev pub invariant-loop-pair : goal.invariant-loop-pair
invariant-loop-pair l = fold with_column l.mask (map (λ pair. pair.0) (drop l.pair-index l.cell.at)) ≡ masks.cell_mask l.cell
