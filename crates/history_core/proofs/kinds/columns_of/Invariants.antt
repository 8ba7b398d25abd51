-- What holds at each turn of `columns_of`.
use Rattle.std.proofs.Common.{◌≡◌, length, map, take}
use Rattle.std.specs.Vec.{vec_len, vec_capacity}
use Rattle.history_core.proofs.kinds.columns_of.Given as goal

abbrev pub invariant-loop-pair : goal.invariant-loop-pair
invariant-loop-pair l =
    record {
      items : l.columns.items ≡ map (λ pair. pair.0) (take l.pair-index l.at);
      len : vec_len l.columns ≡ l.pair-index;
      room : vec_capacity l.columns ≡ length l.at;
    }
