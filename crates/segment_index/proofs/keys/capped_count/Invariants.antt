-- What holds at each turn of `capped_count`.
use Rattle.std.proofs.Common.{◌≡◌, ◌≤◌, ◌+◌, ◌*◌, drop, min}
use Rattle.olap_meaning.specs.Rolled.{value_count}
use Rattle.segment_index.specs.declared.keys.TheConstants.{MOST_CELLS}
use Rattle.segment_index.specs.Keys as keys
use Rattle.segment_index.proofs.keys.capped_count.Given as goal

-- what is left decides
abbrev pub invariant-loop-own : goal.invariant-loop-own
invariant-loop-own l = record {
  decides : min (MOST_CELLS + 1) (l.count * keys.cell_count (value_count l.catalog) (drop l.own-index l.columns)) ≡ min (MOST_CELLS + 1) (keys.cell_count (value_count l.catalog) l.columns);
  capped : l.count ≤ MOST_CELLS + 1;
}
