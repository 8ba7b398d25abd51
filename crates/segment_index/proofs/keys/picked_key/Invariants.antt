-- What holds at each turn of `picked_key`.
use Rattle.std.proofs.Common.{◌≡◌, drop}
use Rattle.olap_meaning.specs.Rolled.{value_count}
use Rattle.segment_index.specs.Keys as keys
use Rattle.segment_index.proofs.keys.picked_key.Given as goal

-- what is left decides
abbrev pub invariant-loop-own : goal.invariant-loop-own
invariant-loop-own l = keys.picked_key (value_count l.catalog) l.key (drop l.own-index l.columns) l.left ≡ keys.picked_key (value_count l.fn.catalog) l.fn.start l.fn.columns l.fn.number
