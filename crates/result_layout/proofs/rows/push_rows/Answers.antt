-- That `push_rows` keeps what holds at each turn.
use Rattle.std.proofs.Common.{All, subst, map, take, take_all, string_bytes}
use Rattle.shown_values.specs.contracts.formatter.FormatterGivesTexts.TheImpl.{answers-value}
use Rattle.shown_values.specs.Given.{Given}
use Rattle.query_meaning.specs.Grids.{grid_row, row_tuples, title_at}
use Rattle.query_meaning.specs.Titles.{IsTitle}
use Rattle.result_layout.specs.Axes.{values_of}
use Rattle.result_layout.proofs.RowFacts.{map_at, rows_laid, titles_more}
use Rattle.result_layout.proofs.rows.push_rows.Goals as goal

pub loop-row-preserved : goal.loop-row-preserved
loop-row-preserved g c =
    let f = grid_row c.args.sheet.now.catalog.now c.args.sheet.now.axes.now (values_of c.args.sheet.now.cells.now) c.args.columns.now in
    let t = title_at c.args.sheet.now.catalog.now c.args.sheet.now.axes.now.cube (row_tuples c.args.sheet.now.axes.now) in
    let at = c.loop-row.row-index in (
      rows_laid (Given ((answers-value g.dyn-1).it c.args.sheet.now.formatter.now)) (map f (take at c.args.rows.now)) _ _ (string_bytes c.args.text.now) (string_bytes c.loop-row.text) _ c.loop-row.invariant.0 c.in_ok-push_row.ensures.lines
          (map_at f c.args.rows.now at 0 c.loop-row-test.true),
      titles_more (map t (take at c.args.rows.now)) _ _ (map_at t c.args.rows.now at 0 c.loop-row-test.true) c.loop-row.invariant.1 c.in_ok-push_row.ensures.title,
    )

pub returns-clause-titles : goal.returns-clause-titles
returns-clause-titles g c =
    subst (λ places. All IsTitle (map (title_at c.args.sheet.now.catalog.now c.args.sheet.now.axes.now.cube (row_tuples c.args.sheet.now.axes.now)) places))
    (take_all c.loop-row.row-index c.args.rows.now c.loop-row-test.false) c.loop-row.invariant.1
