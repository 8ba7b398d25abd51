-- That `empty_batch` ensures what it says.
use Rattle.std.proofs.Common.{◌≡◌, ◌∙◌, ap, sym, length, map}
use Rattle.std.proofs.lemmas.List.{length-map}
use Rattle.olap_meaning.specs.declared.schema.SchemaUse.{SchemaUse}
use Rattle.fact_rows.specs.BatchFiles.{dimensions_of, number_columns, uses_of}
use Rattle.fact_rows.specs.Bound.{key_pair}
use Rattle.fact_rows.proofs.RowFacts.{zipped_length}
use Rattle.fact_rows.proofs.bound.BoundCube.empty_batch.Goals as goal

pub returns : goal.returns
returns c =
    let b = c.self.inside in
    let v = c.args.self.now in
    let keys = sym (length-map b.keys.items key_pair) ∙ ap length c.self.invariant.keys_named
    ∙ zipped_length (map (λ (used : SchemaUse). used.foreign_key) (uses_of b.catalog.now b.cube)) (dimensions_of b.catalog.now b.cube) (length-map (uses_of b.catalog.now b.cube) (λ (used : SchemaUse). used.foreign_key) ∙ c.self.invariant.paired)
    ∙ ap (λ s. length (dimensions_of s.catalog s.cube)) c.self.view_is in
    let numbers = sym (length-map b.numbers.items (λ column. column.name)) ∙ ap length c.self.invariant.numbers_named ∙ ap (λ s. length (number_columns s.catalog s.cube)) c.self.view_is in
    let dimensions : c.in_ok-dimensions.dimensions ≡ length (dimensions_of v.catalog v.cube) = c.in_ok-dimensions.ensures ∙ ap length c.as_slice.ensures.value ∙ keys in
    let columns : c.in_ok-columns.columns ≡ length (number_columns v.catalog v.cube) = c.in_ok-columns.ensures ∙ ap length c.as_slice-2.ensures.value ∙ numbers in
    rw (dimensions, columns) at c.new.ensures
