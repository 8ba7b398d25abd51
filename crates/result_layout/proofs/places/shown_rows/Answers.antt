-- That `shown_rows` keeps what holds at each turn.
use Rattle.std.proofs.Common.{◌∙◌, ◌||◌, Bool, ℕ, not, sym, ap}
use Rattle.std.proofs.lemmas.Bool.{or_from, or_left, or_right}
use Rattle.query_meaning.specs.Grids.{are_rows_non_empty, is_row_filled}
use Rattle.result_layout.specs.Axes.{values_of}
use Rattle.result_layout.proofs.PlaceFacts.{dropped_more, kept_more}
use Rattle.result_layout.proofs.places.shown_rows.Goals.{then-not-non_empty+in_ok-push, then-not-non_empty-via-then-not-non_empty, then-not-non_empty-via-else-not-non_empty+then-is_row_filled, else-not-non_empty+else-is_row_filled}
use Rattle.result_layout.proofs.places.shown_rows.Goals as goal

pub loop-row-preserved : goal.loop-row-preserved
loop-row-preserved c =
    let filled = is_row_filled c.args.axes.now (values_of c.args.cells.now) c.loop-row.row in
    let all = not (are_rows_non_empty c.args.axes.now) in
    let same = ap not (sym c.are_rows_non_empty-non_empty.ensures) in
    let test : ℕ → Bool = λ row. not (are_rows_non_empty c.args.axes.now) || is_row_filled c.args.axes.now (values_of c.args.cells.now) row in
    elim c.if-not-non_empty.branch [
      | then-not-non_empty+in_ok-push w ↦
          kept_more test c.loop-row.row c.loop-row.places.items c.if-not-non_empty.places.items c.loop-row.invariant
          (ap (λ v. v.items) w.places-is ∙ w.in_ok-push.ensures.items)
          (elim w.then-not-non_empty.branch [
            | then-not-non_empty-via-then-not-non_empty w' ↦ or_left all filled (same ∙ ap not w'.if-not-non_empty.true)
            | then-not-non_empty-via-else-not-non_empty+then-is_row_filled w' ↦ or_right all filled (sym w'.is_row_filled.ensures ∙ w'.if-is_row_filled.true)
          ])
      | else-not-non_empty+else-is_row_filled w ↦
          dropped_more test c.loop-row.row c.loop-row.places.items c.if-not-non_empty.places.items c.loop-row.invariant
          (ap (λ v. v.items) w.places-is) (or_from all filled (same ∙ ap not w.if-not-non_empty.false) (sym w.is_row_filled.ensures ∙ w.if-is_row_filled.false))
    ]
