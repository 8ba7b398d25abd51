-- What holds at each turn of `cell_columns_key`.
use Rattle.std.proofs.Common.{◌≡◌, drop, fold, map}
use Rattle.segment_index.specs.Keys as keys
use Rattle.segment_index.proofs.keys.cell_columns_key.Given as goal

-- what is left decides
abbrev pub invariant-loop-pair : goal.invariant-loop-pair
invariant-loop-pair l = fold keys.with_number l.key (map (λ pair. pair.0) (drop l.pair-index l.cell.at)) ≡ keys.cell_columns_key l.cell
