-- What holds at each turn of `place_keys`.
use Rattle.std.proofs.Common.{◌≡◌, ◌++◌, drop, map}
use Rattle.std.specs.List.{zip}
use Rattle.olap_meaning.specs.Records.{missing_column}
use Rattle.fact_rows.specs.Bound.{key_pair, AreKeysPlaced}
use Rattle.fact_rows.proofs.columns.place_keys.Given as goal

abbrev pub invariant-loop-i : goal.invariant-loop-i
invariant-loop-i l = record {
  named : map key_pair l.keys.items ++ zip (map (λ used. used.foreign_key) (drop l.i l.uses)) (drop l.i l.dimensions) ≡ zip (map (λ used. used.foreign_key) l.uses) l.dimensions;
  placed : AreKeysPlaced l.header l.keys.items;
  rest_missing : missing_column (map (λ used. used.foreign_key) (drop l.i l.uses)) l.header ≡ missing_column (map (λ used. used.foreign_key) l.uses) l.header;
}
