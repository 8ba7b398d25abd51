-- The texts at the places are the fields of the levels.
use Rattle.std.proofs.Common.{◌≡◌, ◌∙◌, ap, sym, length}
use Rattle.std.proofs.lemmas.Result.{IfOk-weaker}
use Rattle.dim_tables.specs.Bound.{fields_at}
use Rattle.dim_tables.specs.TableFiles.{fields_in, level_columns}
use Rattle.csv_records.proofs.PlaceFacts.{csv_parts}
use Rattle.dim_tables.proofs.PlaceFacts.{all_within, fields_there}
use Rattle.dim_tables.proofs.bound.BoundDimension.fields.Goals as goal

pub texts_at-requires-clause-within : goal.texts_at-requires-clause-within
texts_at-requires-clause-within c =
    let b = c.self.inside in
    let same : length c.args.self.now.header ≡ length b.header = sym (ap (λ v. length v.header) c.self.view_is) in
    let width = (csv_parts c.args.self.now.header c.args.row.now c.requires).0 in
    rw c.as_slice.ensures.value (all_within b.header c.args.row.now b.fields.items (level_columns b.dimension.now) c.self.invariant.fields_found (width ∙ same))

pub returns : goal.returns
returns c =
    let b = c.self.inside in
    let there = fields_there b.header c.args.row.now b.fields.items (level_columns b.dimension.now) c.self.invariant.fields_found in
    let seen = ap (λ v. fields_in v.header (level_columns v.dimension) c.args.row.now) c.self.view_is in
    let same = ap (λ places. fields_at places c.args.row.now) c.as_slice.ensures.value ∙ there ∙ seen in
    IfOk-weaker c.texts_at.result (λ texts. texts ≡ fields_at c.as_slice.result.now c.args.row.now) (λ texts. texts ≡ fields_in c.args.self.now.header (level_columns c.args.self.now.dimension) c.args.row.now) (λ texts h. h ∙ same) c.texts_at.ensures
