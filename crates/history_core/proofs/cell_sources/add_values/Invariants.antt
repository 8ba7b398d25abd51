-- What holds at each turn of `add_values`.
use Rattle.std.proofs.Common.{◌≡◌, ◌++◌, ◌+◌, map, take}
use Rattle.std.specs.Vec.{vec_len, vec_capacity}
use Rattle.history_core.proofs.cell_sources.add_values.Given as goal

abbrev pub invariant-loop-pair : goal.invariant-loop-pair
invariant-loop-pair l =
    record {
      items : l.values.items ≡ l.initial.values.items ++ map (λ pair. pair.1) (take l.pair-index l.at);
      len : vec_len l.values ≡ vec_len l.initial.values + l.pair-index;
      room : vec_capacity l.values ≡ vec_capacity l.initial.values;
    }
