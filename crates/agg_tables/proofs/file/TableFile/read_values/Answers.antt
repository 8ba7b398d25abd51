-- That `read_values` ensures `values` and `each`.
use Rattle.std.proofs.Common.{◌∙◌, length, sym, ap}
use Rattle.std.specs.Prelude.{slice_index_or}
use Rattle.std.proofs.lemmas.List.{length-map}
use Rattle.agg_tables.proofs.ReadFacts.{order_length, ordered}
use Rattle.agg_tables.specs.Places.{order_below}
use Rattle.agg_tables.proofs.file.TableFile.read_values.Goals as goal

pub returns-clause-values : goal.returns-clause-values
returns-clause-values c =
    let v = c.args.self.now in
    c.in_ok-order_values.ensures ∙ sym (rw c.as_slice.ensures.value (ordered v.catalog v.declared v.header c.args.row.now c.read_levels.new.found.items (length v.catalog.columns) c.in_ok-read_levels.ensures.found))

pub returns-clause-each : goal.returns-clause-each
returns-clause-each c =
    let v = c.args.self.now in
    ap length c.in_ok-order_values.ensures ∙ length-map (order_below v.declared.levels (length v.catalog.columns)) (λ p. slice_index_or c.as_slice.result.now p 0) ∙ order_length v.declared.levels (length v.catalog.columns)
