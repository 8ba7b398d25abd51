-- The places that are looked at are those of the levels' columns.
use Rattle.std.proofs.Common.{◌≡◌, ◌∙◌, ap, sym, length}
use Rattle.std.specs.List.{list_any}
use Rattle.olap_meaning.specs.Records.{is_null}
use Rattle.dim_tables.specs.Bound.{fields_at}
use Rattle.dim_tables.specs.TableFiles.{fields_in, level_columns}
use Rattle.csv_records.proofs.PlaceFacts.{csv_parts}
use Rattle.dim_tables.proofs.PlaceFacts.{all_within, fields_there}
use Rattle.dim_tables.proofs.bound.BoundDimension.has_empty_field.Goals as goal

pub has_empty-requires : goal.has_empty-requires
has_empty-requires c =
    let b = c.self.inside in
    let same : length c.args.self.now.header ≡ length b.header = sym (ap (λ v. length v.header) c.self.view_is) in
    let width = (csv_parts c.args.self.now.header c.args.row.now c.requires).0 in
    rw c.as_slice.ensures.value (all_within b.header c.args.row.now b.fields.items (level_columns b.dimension.now) c.self.invariant.fields_found (width ∙ same))

pub returns : goal.returns
returns c =
    let b = c.self.inside in
    let there = fields_there b.header c.args.row.now b.fields.items (level_columns b.dimension.now) c.self.invariant.fields_found in
    let seen = ap (λ v. list_any is_null (fields_in v.header (level_columns v.dimension) c.args.row.now)) c.self.view_is in
    c.has_empty.ensures ∙ ap (λ places. list_any is_null (fields_at places c.args.row.now)) c.as_slice.ensures.value ∙ ap (list_any is_null) there ∙ seen
