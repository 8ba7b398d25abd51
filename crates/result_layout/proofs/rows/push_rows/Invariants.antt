-- What holds at each turn of `push_rows`.
use Rattle.std.proofs.Common.{All, map, take, string_bytes}
use Rattle.shown_values.specs.contracts.formatter.FormatterGivesTexts.TheImpl.{answers-value}
use Rattle.shown_values.specs.Given.{Given}
use Rattle.query_meaning.specs.Grids.{grid_row, row_tuples, title_at}
use Rattle.query_meaning.specs.Titles.{IsTitle}
use Rattle.result_layout.specs.Axes.{values_of}
use Rattle.result_layout.specs.Lines.{AreRowsBehind}
use Rattle.result_layout.proofs.rows.push_rows.Given as goal

abbrev pub invariant-loop-row : goal.invariant-loop-row
invariant-loop-row g l =
    AreRowsBehind (Given ((answers-value g.dyn-1).it l.sheet.formatter.now)) (map (grid_row l.sheet.catalog.now l.sheet.axes.now (values_of l.sheet.cells.now) l.columns) (take l.row-index l.rows)) (string_bytes l.fn.text) (string_bytes l.text)
    × All IsTitle (map (title_at l.sheet.catalog.now l.sheet.axes.now.cube (row_tuples l.sheet.axes.now)) (take l.row-index l.rows))
