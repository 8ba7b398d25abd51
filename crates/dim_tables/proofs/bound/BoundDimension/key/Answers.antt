-- The place of the key's column is one of a field of the record.
use Rattle.std.proofs.Common.{◌≡◌, ap, arith, length}
use Rattle.csv_records.proofs.PlaceFacts.{place_within, csv_parts}
use Rattle.dim_tables.proofs.bound.BoundDimension.key.Goals as goal

pub text-requires-clause-within : goal.text-requires-clause-within
text-requires-clause-within c =
    let b = c.self.inside in
    let same : length b.header ≡ length c.args.self.now.header = ap (λ v. length v.header) c.self.view_is in
    let within = place_within b.dimension.now.primary_key b.header b.key c.self.invariant.key_found in
    let width = (csv_parts c.args.self.now.header c.args.row.now c.requires).0 in
    omega arith
