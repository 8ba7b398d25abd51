-- That `shown_columns` keeps what holds at each turn.
use Rattle.std.proofs.Common.{◌∙◌, ◌||◌, Bool, ℕ, not, sym, ap}
use Rattle.std.proofs.lemmas.Bool.{or_from, or_left, or_right}
use Rattle.query_meaning.specs.Grids.{is_column_filled}
use Rattle.result_layout.specs.Axes.{values_of}
use Rattle.result_layout.proofs.PlaceFacts.{dropped_more, kept_more}
use Rattle.result_layout.proofs.places.shown_columns.Goals.{then-not-axes+in_ok-push, then-not-axes-via-then-not-axes, then-not-axes-via-else-not-axes+then-is_column_filled, else-not-axes+else-is_column_filled}
use Rattle.result_layout.proofs.places.shown_columns.Goals as goal

pub loop-column-preserved : goal.loop-column-preserved
loop-column-preserved c =
    let filled = is_column_filled c.args.axes.now (values_of c.args.cells.now) c.loop-column.column in
    let all = not c.args.axes.now.columns.non_empty in
    let test : ℕ → Bool = λ column. not c.args.axes.now.columns.non_empty || is_column_filled c.args.axes.now (values_of c.args.cells.now) column in
    elim c.if-not-axes.branch [
      | then-not-axes+in_ok-push w ↦
          kept_more test c.loop-column.column c.loop-column.places.items c.if-not-axes.places.items c.loop-column.invariant
          (ap (λ v. v.items) w.places-is ∙ w.in_ok-push.ensures.items)
          (elim w.then-not-axes.branch [
            | then-not-axes-via-then-not-axes w' ↦ or_left all filled (ap not w'.if-not-axes.true)
            | then-not-axes-via-else-not-axes+then-is_column_filled w' ↦ or_right all filled (sym w'.is_column_filled.ensures ∙ w'.if-is_column_filled.true)
          ])
      | else-not-axes+else-is_column_filled w ↦
          dropped_more test c.loop-column.column c.loop-column.places.items c.if-not-axes.places.items c.loop-column.invariant
          (ap (λ v. v.items) w.places-is) (or_from all filled (ap not w.if-not-axes.false) (sym w.is_column_filled.ensures ∙ w.if-is_column_filled.false))
    ]
