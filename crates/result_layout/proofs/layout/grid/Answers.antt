-- That `grid` writes the grid, that it has the form of one, and that the places of what is shown are within the axes.
use Rattle.std.proofs.Common.{◌∙◌, rules}
use Rattle.shown_values.specs.contracts.formatter.FormatterGivesTexts.TheImpl.{answers-value}
use Rattle.shown_values.specs.Given.{Given}
use Rattle.result_layout.proofs.WholeFacts.{grid_formed, grid_written, places_below}
use Rattle.result_layout.proofs.layout.grid.Goals as goal

pub push_columns-requires-clause-columns : goal.push_columns-requires-clause-columns
push_columns-requires-clause-columns g c = places_below _ _ _ (c.as_slice.ensures.value ∙ c.in_ok-columns.ensures)

pub push_rows-requires-clause-rows : goal.push_rows-requires-clause-rows
push_rows-requires-clause-rows g c = places_below _ _ _ (c.as_slice-2.ensures.value ∙ c.in_ok-rows.ensures)

pub push_rows-requires-clause-columns : goal.push_rows-requires-clause-columns
push_rows-requires-clause-columns g c = places_below _ _ _ (c.as_slice-3.ensures.value ∙ c.in_ok-columns.ensures)

pub returns-clause-written : goal.returns-clause-written
returns-clause-written g c =
    grid_written (Given ((answers-value g.dyn-1).it c.args.formatter.now)) c.args.catalog.now c.args.axes.now c.args.answer.now.position c.len.result c.len-2.result c.as_slice-cells.result.now c.args.answer.now.cells
    c.in_ok-columns.columns.items c.in_ok-rows.rows.items c.as_slice.result.now c.as_slice-3.result.now c.as_slice-2.result.now _ _ _ _ c.as_slice-cells.ensures
    c.in_ok-columns.ensures c.in_ok-rows.ensures c.as_slice.ensures.value c.as_slice-3.ensures.value c.as_slice-2.ensures.value
    c.in_ok-text.ensures (c.len.ensures ∙ c.in_ok-columns.columns.ok.0) (c.len-2.ensures ∙ c.in_ok-rows.rows.ok.0) c.in_ok-push_columns.ensures.lines c.in_ok-push_rows.ensures.lines (c.from_string.ensures ∙ c.in_ok-push_str.ensures.bytes)

pub returns-clause-form : goal.returns-clause-form
returns-clause-form g c =
    grid_formed (Given ((answers-value g.dyn-1).it c.args.formatter.now)) c.args.catalog.now c.args.axes.now c.args.answer.now.position c.as_slice-cells.result.now c.args.answer.now.cells
    c.in_ok-columns.columns.items c.in_ok-rows.rows.items c.as_slice.result.now c.as_slice-2.result.now _ c.as_slice-cells.ensures
    c.in_ok-columns.ensures c.in_ok-rows.ensures c.as_slice.ensures.value c.as_slice-2.ensures.value c.args.answer.now.first (search rules) c.in_ok-push_columns.ensures.titles c.in_ok-push_rows.ensures.titles c.texts_show.ensures (returns-clause-written g c)
