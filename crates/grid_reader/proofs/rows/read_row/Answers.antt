-- That `read_row` reads the row of a line.
use Rattle.std.proofs.Common.{codes, ◌∙◌, inl, inr, sym}
use Rattle.std.proofs.lemmas.List.{length-map}
use Rattle.grid_reader.specs.Lines.{AreShown, IsShown}
use Rattle.grid_reader.specs.Reading.{IsTitleAt}
use Rattle.grid_reader.proofs.Lists.{bytes_of, read_none, pairs_length}
use Rattle.grid_reader.proofs.RowFacts.{row_parts, row_refused, row_read, other_text, this_text}
use Rattle.grid_reader.proofs.rows.read_row.Goals as goal

pub returns-then-ne : goal.returns-then-ne
returns-then-ne c =
    let parts = row_parts c.args.line.now c.in_ok-fields.fields.items c.as_slice.result.now c.in-Some.others.now c.in-Some-split_first.texts.now c.in-Some.first.now c.in-Some-split_first.title.now c.in_ok-fields.ensures c.as_slice.ensures.value c.in-Some.ensures.cases c.in-Some-split_first.ensures.cases in
    row_refused c.args.columns c.args.line.now c.in-Some.first.now.now c.in-Some-split_first.title.now.now (bytes_of c.in-Some-split_first.texts.now) parts
    (λ row own. elim c.then-ne.either [
      | inl is ↦ other_text c.in-Some.first.now.now c.as_slice-2.result.now (codes "R") c.ne.result c.as_slice-2.ensures c.ne.ensures is own.begins
      | inr other ↦ other.1 (sym (length-map c.in-Some-split_first.texts.now (λ t. t.now)) ∙ pairs_length IsShown (bytes_of c.in-Some-split_first.texts.now) row.values own.values ∙ own.count)
    ])

pub returns-in_default-2 : goal.returns-in_default-2
returns-in_default-2 c =
    let parts = row_parts c.args.line.now c.in_ok-fields.fields.items c.as_slice.result.now c.in-Some.others.now c.in-Some-split_first.texts.now c.in-Some.first.now c.in-Some-split_first.title.now c.in_ok-fields.ensures c.as_slice.ensures.value c.in-Some.ensures.cases c.in-Some-split_first.ensures.cases in
    row_refused c.args.columns c.args.line.now c.in-Some.first.now.now c.in-Some-split_first.title.now.now (bytes_of c.in-Some-split_first.texts.now) parts
    (λ row own. read_none IsTitleAt c.in-Some-split_first.title.now.now c.in_ok-title.field-0 c.in_ok-title.ensures c.in_default-2.is row.title (rw own.titled own.formed, sym own.titled))

pub returns-in_default-3 : goal.returns-in_default-3
returns-in_default-3 c =
    let parts = row_parts c.args.line.now c.in_ok-fields.fields.items c.as_slice.result.now c.in-Some.others.now c.in-Some-split_first.texts.now c.in-Some.first.now c.in-Some-split_first.title.now c.in_ok-fields.ensures c.as_slice.ensures.value c.in-Some.ensures.cases c.in-Some-split_first.ensures.cases in
    row_refused c.args.columns c.args.line.now c.in-Some.first.now.now c.in-Some-split_first.title.now.now (bytes_of c.in-Some-split_first.texts.now) parts
    (λ row own. read_none AreShown (bytes_of c.in-Some-split_first.texts.now) c.in_ok-values.field-0 c.in_ok-values.ensures c.in_default-3.is row.values own.values)

pub returns : goal.returns
returns c =
    let parts = row_parts c.args.line.now c.in_ok-fields.fields.items c.as_slice.result.now c.in-Some.others.now c.in-Some-split_first.texts.now c.in-Some.first.now c.in-Some-split_first.title.now c.in_ok-fields.ensures c.as_slice.ensures.value c.in-Some.ensures.cases c.in-Some-split_first.ensures.cases in
    row_read c.args.columns c.args.line.now c.in-Some.first.now.now c.in-Some-split_first.title.now.now (bytes_of c.in-Some-split_first.texts.now) c.in_ok-title.field-0 c.in_ok-values.field-0 c.in-Some-2.title c.in-Some-3.values parts
    (this_text c.in-Some.first.now.now c.as_slice-2.result.now (codes "R") c.ne.result c.as_slice-2.ensures c.ne.ensures c.if-ne.false)
    (length-map c.in-Some-split_first.texts.now (λ t. t.now) ∙ c.if-texts-columns.false)
    c.in_ok-title.ensures c.in_ok-values.ensures c.in-Some-2.is c.in-Some-3.is
