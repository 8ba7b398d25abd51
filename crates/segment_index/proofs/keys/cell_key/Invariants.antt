-- What holds at each turn of `cell_key`.
use Rattle.std.proofs.Common.{◌≡◌, drop, fold}
use Rattle.segment_index.specs.Keys as keys
use Rattle.segment_index.proofs.keys.cell_key.Given as goal

-- what is left decides
abbrev pub invariant-loop-pair : goal.invariant-loop-pair
invariant-loop-pair l = fold (λ key pair. keys.with_pair key pair.0 pair.1) l.key (drop l.pair-index l.cell.at) ≡ keys.cell_key l.cell
