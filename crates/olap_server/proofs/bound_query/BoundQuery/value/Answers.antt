-- That `value` may call `field`.
use Rattle.std.proofs.Common.{◌≡◌, true, arith}
use Rattle.olap_meaning.specs.Records.{is_csv}
use Rattle.csv_records.proofs.PlaceFacts.{place_within, csv_parts}
use Rattle.olap_server.proofs.bound_query.BoundQuery.value.Goals as goal

pub field-field-requires : goal.field-field-requires
field-field-requires c =
    let b = c.self.inside in
    let within = place_within b.query.column b.header b.column c.self.invariant.column_found in
    let whole : is_csv b.header c.args.row.now ≡ true = cc in
    let width = (csv_parts b.header c.args.row.now whole).0 in
    omega arith
