-- Answers to the axes of a query.
use Rattle.std.specs.Prelude.{◌≡◌, ◌*◌, List, length, map}
use Rattle.olap_meaning.specs.declared.CellValue.{CellValue}
use Rattle.query_meaning.specs.declared.axes.Axes.{Axes}
use Rattle.query_meaning.specs.Grids.{row_tuples}
use Rattle.history_core.specs.declared.answers.Answered.{Answered}

-- an answer has a cell for each row and column of axes
abbrev pub IsAnswerTo : Axes → List Answered → Type 0
IsAnswerTo axes cells =
    length cells ≡ length (row_tuples axes) * length axes.columns.tuples

-- the values of answered cells
abbrev pub values_of : List Answered → List CellValue
values_of cells = map (λ one. one.value) cells
