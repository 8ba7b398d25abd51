-- That `field_of` ensures what it says, may call `unwrap` and stays within its numbers.
use Rattle.std.proofs.Common.{refl, ◌≡◌, ◌∙◌, ◌<◌, [], Option, Some, None, List, ℕ, ap, sym, length, get_or, slice_get, Bor}
use Rattle.std.specs.Option.{option_copied, IsSome}
use Rattle.std.proofs.lemmas.Option.{slice_get_read}
use Rattle.olap_meaning.specs.declared.tables.Column.{Column}
use Rattle.olap_meaning.specs.Catalog.{field_texts}
use Rattle.olap_catalog.proofs.ValueFacts.{column_known, table_there, field_there, texts_are}
use Rattle.olap_catalog.proofs.leaves.field_of.Goals as goal

some_copied : (o : Option (Bor (List (List ℕ)))) (x : List (List ℕ)) → option_copied o ≡ Some x → IsSome o
some_copied None x e = absurd (cc e)
some_copied (Some y) x e = refl

-- the column that was read
found : (columns shown : List Column) (column n : ℕ) (own : Column) → column < length columns → shown ≡ columns → own ≡ get_or shown n own → n ≡ column → slice_get columns column ≡ Some own
found columns shown column n own within is at same =
    slice_get_read columns (length columns) column own refl within (at ∙ ap (λ cs. get_or cs n own) is ∙ ap (λ i. get_or columns i own) same)

pub bounds-as_slice-at : goal.bounds-as_slice-at
bounds-as_slice-at c =
    let known = column_known c.args.tables.now c.args.columns.now c.args.column c.requires.tables.even c.requires.tables.columned c.requires.known in
    let at = found c.args.columns.now c.as_slice.result.now c.args.column c.column.inside.0 c.index-as_slice-column.result c.requires.known c.as_slice.ensures c.index-as_slice-column.is c.column.view_is in
    table_there c.args.tables.now c.as_slice-2.result.now c.args.columns.now c.args.column c.index-as_slice-column.result known at c.as_slice-2.ensures

pub unwrap-requires : goal.unwrap-requires
unwrap-requires c =
    let known = column_known c.args.tables.now c.args.columns.now c.args.column c.requires.tables.even c.requires.tables.columned c.requires.known in
    let at = found c.args.columns.now c.as_slice.result.now c.args.column c.column.inside.0 c.index-as_slice-column.result c.requires.known c.as_slice.ensures c.index-as_slice-column.is c.column.view_is in
    some_copied c.column-2.result (field_texts known.own.field known.table.records)
    (c.column-2.ensures ∙ field_there c.args.tables.now c.as_slice-2.result.now c.args.columns.now c.args.column c.index-as_slice-column.result c.index-as_slice-at.result known at c.as_slice-2.ensures c.index-as_slice-at.is)

pub returns : goal.returns
returns c =
    let known = column_known c.args.tables.now c.args.columns.now c.args.column c.requires.tables.even c.requires.tables.columned c.requires.known in
    let at = found c.args.columns.now c.as_slice.result.now c.args.column c.column.inside.0 c.index-as_slice-column.result c.requires.known c.as_slice.ensures c.index-as_slice-column.is c.column.view_is in
    let texts : Some c.unwrap.result.now ≡ Some (field_texts known.own.field known.table.records) =
    ap option_copied (sym c.unwrap.ensures) ∙ c.column-2.ensures
    ∙ field_there c.args.tables.now c.as_slice-2.result.now c.args.columns.now c.args.column c.index-as_slice-column.result c.index-as_slice-at.result known at c.as_slice-2.ensures c.index-as_slice-at.is in
    let same : c.unwrap.result.now ≡ field_texts known.own.field known.table.records = cc texts in
    same ∙ sym (texts_are c.args._schema.now c.args.tables.now c.args.columns.now [] [] c.args.column known c.requires.tables.paired)
