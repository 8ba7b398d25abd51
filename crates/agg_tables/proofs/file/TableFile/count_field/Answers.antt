-- That `count_field` may call `text`.
use Rattle.csv_records.proofs.PlaceFacts.{place_in_row}
use Rattle.agg_tables.proofs.file.TableFile.count_field.Goals as goal

pub text-requires-clause-within : goal.text-requires-clause-within
text-requires-clause-within c =
    let csv = rw (← c.self.view_is) at c.requires in
    place_in_row c.self.inside.header c.args.row.now c.self.inside.declared.now.fact_count c.self.inside.count_place csv c.self.invariant.counted
