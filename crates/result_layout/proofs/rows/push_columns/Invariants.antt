-- What holds at each turn of `push_columns`.
use Rattle.std.proofs.Common.{◌≡◌, ◌++◌, All, flat_map, map, take, string_bytes}
use Rattle.olap_meaning.specs.Texts.{line}
use Rattle.query_meaning.specs.GridForm.{column_text}
use Rattle.query_meaning.specs.Grids.{title_at}
use Rattle.query_meaning.specs.Titles.{IsTitle}
use Rattle.result_layout.proofs.rows.push_columns.Given as goal

abbrev pub invariant-loop-column : goal.invariant-loop-column
invariant-loop-column g l =
    let titles = map (title_at l.sheet.catalog.now l.sheet.axes.now.cube l.sheet.axes.now.columns.tuples) (take l.column-index l.columns) in
    (string_bytes l.text ≡ string_bytes l.fn.text ++ flat_map line (map column_text titles)) × All IsTitle titles
