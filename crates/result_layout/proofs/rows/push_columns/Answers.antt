-- That `push_columns` keeps what holds at each turn.
use Rattle.std.proofs.Common.{◌∙◌, ◌++◌, ◌∷◌, [], ap, sym, map, take, string_bytes}
use Rattle.query_meaning.specs.Grids.{title_at}
use Rattle.result_layout.proofs.RowFacts.{column_laid, map_at, titles_more}
use Rattle.result_layout.proofs.rows.push_columns.Goals as goal

pub loop-column-preserved : goal.loop-column-preserved
loop-column-preserved g c =
    let f = title_at c.args.sheet.now.catalog.now c.args.sheet.now.axes.now.cube c.args.sheet.now.axes.now.columns.tuples in
    let titles = map f (take c.loop-column.column-index c.args.columns.now) in
    let more = map_at f c.args.columns.now c.loop-column.column-index 0 c.loop-column-test.true ∙ ap (λ t. titles ++ t ∷ []) (sym c.in_ok-title.ensures.title) in (
      column_laid titles _ c.in_ok-title.title c.as_str.result.now (string_bytes c.args.text.now) (string_bytes c.loop-column.text) _ _ _ c.loop-column.invariant.0 more c.as_str.ensures
          c.in_ok-push_str.ensures.bytes c.in_ok-push_str-2.ensures.bytes c.in_ok-push_str-3.ensures.bytes,
      titles_more titles _ c.in_ok-title.title more c.loop-column.invariant.1 c.in_ok-title.ensures.form,
    )
