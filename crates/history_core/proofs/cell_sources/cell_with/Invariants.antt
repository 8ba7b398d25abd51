-- What holds at each turn of `cell_with`.
use Rattle.std.proofs.Common.{◌≡◌, length, take}
use Rattle.std.specs.List.{zip}
use Rattle.std.specs.Vec.{vec_len, vec_capacity}
use Rattle.history_core.proofs.cell_sources.cell_with.Given as goal

abbrev pub invariant-loop-i : goal.invariant-loop-i
invariant-loop-i l =
    record {
      items : l.at.items ≡ take l.i (zip l.columns l.values);
      len : vec_len l.at ≡ l.i;
      room : vec_capacity l.at ≡ length l.columns;
    }
