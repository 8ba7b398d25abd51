-- What holds at each turn of `add_sources`.
use Rattle.std.proofs.Common.{◌≡◌, ◌+◌, ◌++◌, drop}
use Rattle.std.specs.Vec.{vec_len, vec_capacity}
use Rattle.history_core.specs.CellSources.{IsPacked, unpacked}
use Rattle.history_core.proofs.cell_sources.add_sources.Given as goal

-- what is done and what is left are the whole, and there is room for what is left
abbrev pub invariant-loop-cell : goal.invariant-loop-cell
invariant-loop-cell l =
    record {
      packed : IsPacked l.kinds l.lists (drop l.cell-index l.cells) l.left;
      whole : l.sources.items ++ unpacked l.kinds l.lists (drop l.cell-index l.cells) l.left ≡ l.initial.sources.items ++ unpacked l.kinds l.lists l.cells l.values;
      len : vec_len l.sources ≡ vec_len l.initial.sources + l.cell-index;
      room : vec_capacity l.sources ≡ vec_capacity l.initial.sources;
    }
