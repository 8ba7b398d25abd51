-- What holds at each turn of `fields_of`.
use Rattle.std.proofs.Common.{◌≡◌, length, map, take}
use Rattle.std.specs.Vec.{vec_len, vec_capacity}
use Rattle.olap_catalog.specs.Columns.{column_texts}
use Rattle.fact_reader.proofs.places.fields_of.Given as goal

-- the columns so far have their texts, and there is room for those of the others
abbrev pub invariant-loop-column : goal.invariant-loop-column
invariant-loop-column l =
    record {
      told : map (λ field. field.now) l.fields.items ≡ map (λ column. column_texts l.catalog column.0) (take l.column-index l.columns);
      len : vec_len l.fields ≡ l.column-index;
      room : vec_capacity l.fields ≡ length l.columns;
    }
