-- What holds at each turn of `header_columns_key`.
use Rattle.std.proofs.Common.{◌≡◌, drop, fold, map}
use Rattle.segment_index.specs.Keys as keys
use Rattle.segment_index.proofs.keys.header_columns_key.Given as goal

-- what is left decides
abbrev pub invariant-loop-own : goal.invariant-loop-own
invariant-loop-own l = fold keys.with_number l.key (map (λ own. own.0) (drop l.own-index l.header.columns)) ≡ keys.header_columns_key l.header
