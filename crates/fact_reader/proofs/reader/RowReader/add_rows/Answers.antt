-- That `add_rows` ensures what it says, may call `add_row` and keeps what holds at each turn.
use Rattle.std.proofs.Common.{◌≡◌, ◌∙◌, ◌<◌, ℕ, ℤ, List, [], Option, Some, ◌++◌, append-nil, append_assoc, length, length-append, take, slice_get, ap, sym, arith}
use Rattle.std.specs.Prelude.{option_to_list}
use Rattle.std.proofs.lemmas.List.{take_all}
use Rattle.std.proofs.lemmas.Option.{slice_get-get_or}
use Rattle.olap_meaning.specs.declared.TheConstants.{ROW_LIMIT}
use Rattle.olap_meaning.specs.declared.tables.Row.{Row}
use Rattle.segment_body.specs.BodyOf.{BodyOf}
use Rattle.fact_reader.specs.Reading.{row_at}
use Rattle.fact_reader.specs.BodyRows.{body_row, body_rows}
use Rattle.fact_reader.proofs.BatchFacts.{body_rows-fit, body_rows_next, taken_fit}
use Rattle.fact_reader.proofs.reader.RowReader.add_rows.Goals as goal

pub add_row-requires-clause-room : goal.add_row-requires-clause-room
add_row-requires-clause-room c =
    let so_far = ap (λ (b : BodyOf). length b.rows) c.loop-i.invariant in
    let all = length-append c.args.body.now.rows (body_rows c.args.self.now.catalog c.args.self.now.header (take c.loop-i.i c.args.piece.now.rows)) in
    let few = body_rows-fit c.args.self.now.catalog c.args.self.now.header (take c.loop-i.i c.args.piece.now.rows) in
    let taken = taken_fit c.args.piece.now.rows c.loop-i.i in
    let below : length c.loop-i.body.rows < ROW_LIMIT = omega (arith, so_far, all, few, taken, c.requires.room, c.len-i-end.ensures.rows, c.loop-i-test.true) in
    below

pub loop-i-preserved : goal.loop-i-preserved
loop-i-preserved c =
    let at : slice_get c.args.piece.now.rows c.loop-i.i ≡ Some (row_at c.args.piece.now c.loop-i.i) = slice_get-get_or c.args.piece.now.rows c.loop-i.i (record { leaves = []; values = [] }) (omega (arith, c.len-i-end.ensures.rows, c.loop-i-test.true)) in
    let next = body_rows_next c.args.self.now.catalog c.args.self.now.header c.args.piece.now c.loop-i.i at in
    let more : List (List ℕ × Option ℤ) = option_to_list (body_row c.args.self.now.catalog c.args.self.now.header (row_at c.args.piece.now c.loop-i.i)) in
    let before : List (List ℕ × Option ℤ) = body_rows c.args.self.now.catalog c.args.self.now.header (take c.loop-i.i c.args.piece.now.rows) in
    c.in_ok-add_row.ensures
    ∙ ap (λ (b : BodyOf). record b { rows = b.rows ++ more }) c.loop-i.invariant
    ∙ ap (λ (rows : List (List ℕ × Option ℤ)). record c.args.body.now { rows = rows }) (append_assoc c.args.body.now.rows before more ∙ ap (λ (rows : List (List ℕ × Option ℤ)). c.args.body.now.rows ++ rows) (sym next))

pub loop-i-init : goal.loop-i-init
loop-i-init c = ap (λ (rows : List (List ℕ × Option ℤ)). record c.args.body.now { rows = rows }) (sym (append-nil c.args.body.now.rows))

pub add_row-requires-clause-row : goal.add_row-requires-clause-row
add_row-requires-clause-row c = omega (arith, c.len-i-end.ensures.rows, c.loop-i-test.true)

pub add_row-requires-clause-few_dimensions : goal.add_row-requires-clause-few_dimensions
add_row-requires-clause-few_dimensions c = omega (arith, c.dimensions-dimensions.ensures, c.dimensions-dimensions.type_inv)

pub add_row-requires-clause-few_columns : goal.add_row-requires-clause-few_columns
add_row-requires-clause-few_columns c = omega (arith, c.columns-columns.ensures, c.columns-columns.type_inv)

pub add_row-requires-clause-same : goal.add_row-requires-clause-same
add_row-requires-clause-same c = ap (λ (b : BodyOf). b.header) c.loop-i.invariant ∙ c.requires.same

pub returns : goal.returns
returns c =
    let all = take_all c.loop-i.i c.args.piece.now.rows (omega (arith, c.len-i-end.ensures.rows, c.loop-i-test.false)) in
    c.loop-i.invariant ∙ ap (λ (rows : List Row). record c.args.body.now { rows = c.args.body.now.rows ++ body_rows c.args.self.now.catalog c.args.self.now.header rows }) all
