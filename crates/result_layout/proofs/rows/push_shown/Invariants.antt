-- What holds at each turn of `push_shown`.
use Rattle.std.proofs.Common.{length, map, take, string_bytes}
use Rattle.shown_values.specs.contracts.formatter.FormatterGivesTexts.TheImpl.{answers-value}
use Rattle.shown_values.specs.Given.{Given}
use Rattle.query_meaning.specs.Grids.{value_at}
use Rattle.result_layout.specs.Axes.{values_of}
use Rattle.result_layout.specs.Lines.{AreShownBehind}
use Rattle.result_layout.proofs.rows.push_shown.Given as goal

abbrev pub invariant-loop-column : goal.invariant-loop-column
invariant-loop-column g l =
    AreShownBehind (Given ((answers-value g.dyn-1).it l.sheet.formatter.now)) (map (value_at (length l.sheet.axes.now.columns.tuples) (values_of l.sheet.cells.now) l.row) (take l.column-index l.columns)) (string_bytes l.fn.text) (string_bytes l.text)
