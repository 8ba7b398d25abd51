-- That `value` ensures what it says, may call `leaf` and `value_at` and stays within its numbers.
use Rattle.std.proofs.Common.{◌≡◌, ◌∙◌, ℕ, true, false, map, sym, arith}
use Rattle.olap_meaning.specs.declared.cells.Allowed.{Allowed}
use Rattle.olap_meaning.specs.Worth.{row_value}
use Rattle.olap_catalog.specs.Columns.{column_texts}
use Rattle.fact_reader.specs.Reading.{row_at}
use Rattle.fact_reader.proofs.RowFacts.{leaf_is, reader_placed, text_inside, told_at, value_told}
use Rattle.segment_body.proofs.ValueFacts.{read}
use Rattle.fact_reader.proofs.reader.RowReader.value.Goals as goal

pub overflow_cast-index : goal.overflow_cast-index
overflow_cast-index c =
    let p = reader_placed c.self.inside.catalog.now c.self.inside.header.now c.self.inside.places.items (map (λ field. field.now) c.self.inside.fields.items) c.self.inside.place c.args.piece.now c.args.i c.args.k c.index-as_slice-k.result c.index.result.now c.self.invariant
    (rw (← c.self.view_is) at c.requires.fit) c.requires.row (rw (← c.self.view_is) at c.requires.column) (rw c.as_slice.ensures at c.index-as_slice-k.is) c.index.ensures in
    omega (arith, p.within, c.requires.few_dimensions)

pub leaf-leaf-requires-clause-dimension : goal.leaf-leaf-requires-clause-dimension
leaf-leaf-requires-clause-dimension c =
    let p = reader_placed c.self.inside.catalog.now c.self.inside.header.now c.self.inside.places.items (map (λ field. field.now) c.self.inside.fields.items) c.self.inside.place c.args.piece.now c.args.i c.args.k c.index-as_slice-k.result c.index.result.now c.self.invariant
    (rw (← c.self.view_is) at c.requires.fit) c.requires.row (rw (← c.self.view_is) at c.requires.column) (rw c.as_slice.ensures at c.index-as_slice-k.is) c.index.ensures in
    p.within

pub value_at-value-requires : goal.value_at-value-requires
value_at-value-requires c =
    let p = reader_placed c.self.inside.catalog.now c.self.inside.header.now c.self.inside.places.items (map (λ field. field.now) c.self.inside.fields.items) c.self.inside.place c.args.piece.now c.args.i c.args.k c.index-as_slice-k.result c.index.result.now c.self.invariant
    (rw (← c.self.view_is) at c.requires.fit) c.requires.row (rw (← c.self.view_is) at c.requires.column) (rw c.as_slice.ensures at c.index-as_slice-k.is) c.index.ensures in
    let leaf = leaf_is c.args.piece.now c.args.i c.index.result.now c.leaf-leaf.result p.leaf c.requires.row c.leaf-leaf.ensures p.here in
    let told : c.index-2.result.now.now ≡ column_texts c.self.inside.catalog.now c.index-as_slice-k.result.0 =
    told_at (λ field. field.now) (λ (column : ℕ × Allowed). column_texts c.self.inside.catalog.now column.0) c.self.inside.fields.items c.self.inside.header.now.columns c.args.k c.index-2.result.now c.index-as_slice-k.result c.self.invariant.told
    (rw (← c.self.view_is) at c.requires.column) c.index-2.ensures (rw c.as_slice.ensures at c.index-as_slice-k.is) in
    text_inside c.self.inside.catalog.now c.self.inside.header.now.cube c.args.piece.now c.args.i c.index-as_slice-k.result.0 c.index.result.now p c.index-2.result.now.now c.leaf-leaf.result told leaf c.texts_have_values.ensures

pub returns-then-allows : goal.returns-then-allows
returns-then-allows c =
    let p = reader_placed c.self.inside.catalog.now c.self.inside.header.now c.self.inside.places.items (map (λ field. field.now) c.self.inside.fields.items) c.self.inside.place c.args.piece.now c.args.i c.args.k c.index-as_slice-k.result c.index.result.now c.self.invariant
    (rw (← c.self.view_is) at c.requires.fit) c.requires.row (rw (← c.self.view_is) at c.requires.column) (rw c.as_slice.ensures at c.index-as_slice-k.is) c.index.ensures in
    let leaf = leaf_is c.args.piece.now c.args.i c.index.result.now c.leaf-leaf.result p.leaf c.requires.row c.leaf-leaf.ensures p.here in
    let told : c.index-2.result.now.now ≡ column_texts c.self.inside.catalog.now c.index-as_slice-k.result.0 =
    told_at (λ field. field.now) (λ (column : ℕ × Allowed). column_texts c.self.inside.catalog.now column.0) c.self.inside.fields.items c.self.inside.header.now.columns c.args.k c.index-2.result.now c.index-as_slice-k.result c.self.invariant.told
    (rw (← c.self.view_is) at c.requires.column) c.index-2.ensures (rw c.as_slice.ensures at c.index-as_slice-k.is) in
    let value = value_told c.self.inside.catalog.now c.self.inside.header.now.cube c.args.piece.now c.args.i c.index-as_slice-k.result.0 c.index.result.now p c.index-2.result.now.now c.leaf-leaf.result told leaf c.texts_have_values.ensures c.value_at-value.result c.value_at-value.ensures in
    rw (← c.self.view_is)
    (sym (read (row_value c.self.inside.catalog.now c.self.inside.header.now.cube (row_at c.args.piece.now c.args.i)) c.self.inside.header.now.columns c.args.k c.index-as_slice-k.result c.value_at-value.result true
    (rw (← c.self.view_is) at c.requires.column) (rw c.as_slice.ensures at c.index-as_slice-k.is) value (sym c.allows.ensures ∙ c.if-allows.true)))

pub returns-else-allows : goal.returns-else-allows
returns-else-allows c =
    let p = reader_placed c.self.inside.catalog.now c.self.inside.header.now c.self.inside.places.items (map (λ field. field.now) c.self.inside.fields.items) c.self.inside.place c.args.piece.now c.args.i c.args.k c.index-as_slice-k.result c.index.result.now c.self.invariant
    (rw (← c.self.view_is) at c.requires.fit) c.requires.row (rw (← c.self.view_is) at c.requires.column) (rw c.as_slice.ensures at c.index-as_slice-k.is) c.index.ensures in
    let leaf = leaf_is c.args.piece.now c.args.i c.index.result.now c.leaf-leaf.result p.leaf c.requires.row c.leaf-leaf.ensures p.here in
    let told : c.index-2.result.now.now ≡ column_texts c.self.inside.catalog.now c.index-as_slice-k.result.0 =
    told_at (λ field. field.now) (λ (column : ℕ × Allowed). column_texts c.self.inside.catalog.now column.0) c.self.inside.fields.items c.self.inside.header.now.columns c.args.k c.index-2.result.now c.index-as_slice-k.result c.self.invariant.told
    (rw (← c.self.view_is) at c.requires.column) c.index-2.ensures (rw c.as_slice.ensures at c.index-as_slice-k.is) in
    let value = value_told c.self.inside.catalog.now c.self.inside.header.now.cube c.args.piece.now c.args.i c.index-as_slice-k.result.0 c.index.result.now p c.index-2.result.now.now c.leaf-leaf.result told leaf c.texts_have_values.ensures c.value_at-value.result c.value_at-value.ensures in
    rw (← c.self.view_is)
    (sym (read (row_value c.self.inside.catalog.now c.self.inside.header.now.cube (row_at c.args.piece.now c.args.i)) c.self.inside.header.now.columns c.args.k c.index-as_slice-k.result c.value_at-value.result false
    (rw (← c.self.view_is) at c.requires.column) (rw c.as_slice.ensures at c.index-as_slice-k.is) value (sym c.allows.ensures ∙ c.if-allows.false)))
