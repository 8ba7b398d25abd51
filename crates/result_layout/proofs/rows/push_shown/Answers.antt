-- That `push_shown` adds the shown texts, and keeps what holds at each turn.
use Rattle.std.proofs.Common.{◌∙◌, ◌++◌, ◌∷◌, [], ap, sym, subst, get_or, length, map, take, take_all, string_bytes}
use Rattle.shown_values.specs.contracts.formatter.FormatterGivesTexts.TheImpl.{answers-value}
use Rattle.shown_values.specs.Given.{Given}
use Rattle.query_meaning.specs.Grids.{value_at}
use Rattle.result_layout.specs.Axes.{values_of}
use Rattle.result_layout.specs.Lines.{AreShownBehind}
use Rattle.result_layout.proofs.RowFacts.{map_at, none_shown, one_shown}
use Rattle.result_layout.proofs.rows.push_shown.Goals as goal

pub loop-column-init : goal.loop-column-init
loop-column-init g c = none_shown (Given ((answers-value g.dyn-1).it c.args.sheet.now.formatter.now)) (string_bytes c.args.text.now)

pub loop-column-preserved : goal.loop-column-preserved
loop-column-preserved g c =
    let f = value_at (length c.args.sheet.now.axes.now.columns.tuples) (values_of c.args.sheet.now.cells.now) c.args.row in
    let gives = Given ((answers-value g.dyn-1).it c.args.sheet.now.formatter.now) in
    one_shown gives (map f (take c.loop-column.column-index c.args.columns.now)) _ c.value_at-value.result (string_bytes c.args.text.now) (string_bytes c.loop-column.text) c.as_str.result.now _ c.loop-column.invariant
    (subst (gives c.value_at-value.result) (sym c.as_str.ensures) (subst ((answers-value g.dyn-1).it c.args.sheet.now.formatter.now c.value_at-value.result) c.in_ok-shown.was c.show.ensures.answer))
    (map_at f c.args.columns.now c.loop-column.column-index 0 c.loop-column-test.true ∙ ap (λ v. map f (take c.loop-column.column-index c.args.columns.now) ++ v ∷ []) (sym c.value_at-value.ensures.value))
    (c.in_ok-push_str-2.ensures.bytes ∙ ap (λ t. t ++ c.as_str.result.now) c.in_ok-push_str.ensures.bytes)

pub returns : goal.returns
returns g c =
    let f = value_at (length c.args.sheet.now.axes.now.columns.tuples) (values_of c.args.sheet.now.cells.now) c.args.row in
    subst (λ places. AreShownBehind (Given ((answers-value g.dyn-1).it c.args.sheet.now.formatter.now)) (map f places) (string_bytes c.args.text.now) (string_bytes c.loop-column.text))
    (take_all c.loop-column.column-index c.args.columns.now c.loop-column-test.false) c.loop-column.invariant
