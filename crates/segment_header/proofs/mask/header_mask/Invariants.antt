-- What holds at each turn of `header_mask`.
use Rattle.std.proofs.Common.{◌≡◌, drop, map, fold}
use Rattle.segment_header.specs.Masks as masks
use Rattle.segment_header.specs.Masks.{with_column}
use Rattle.segment_header.proofs.mask.header_mask.Given as goal

-- what is left decides
abbrev pub invariant-loop-own : goal.invariant-loop-own
invariant-loop-own l = fold with_column l.mask (map (λ own. own.0) (drop l.own-index l.header.columns)) ≡ masks.header_mask l.header
