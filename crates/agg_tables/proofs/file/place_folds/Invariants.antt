-- What holds at each turn of `place_folds`.
use Rattle.std.proofs.Common.{◌≡◌, Bool, length, take}
use Rattle.std.specs.Prelude.{IsTrue}
use Rattle.std.specs.List.{list_all}
use Rattle.agg_tables.specs.declared.declared.Fold.{Fold}
use Rattle.agg_tables.specs.Places.{AreSummed}
use Rattle.agg_tables.proofs.file.place_folds.Given as goal

abbrev pub invariant-loop-column : goal.invariant-loop-column
invariant-loop-column l = record {
  summed : AreSummed l.folds.items (take l.column-index l.columns) l.places.items;
  own : take (length l.initial.folds.items) l.folds.items ≡ l.initial.folds.items;
  more : (test : Fold → Bool) → IsTrue (list_all test l.initial.folds.items) → IsTrue (list_all (λ column. test column.fold) l.columns) → IsTrue (list_all test l.folds.items);
}
