-- That `add_pieces` ensures what it says, may call what it calls and keeps what holds at each turn.
use Rattle.std.proofs.Common.{◌∙◌, ℕ, ℤ, List, Option, ◌+◌, ◌++◌, append-nil, append_assoc, length, length-append, length-drop, drop, take, ap, sym, arith}
use Rattle.std.proofs.lemmas.List.{take_all}
use Rattle.olap_meaning.specs.declared.tables.Row.{Row}
use Rattle.fact_versions.specs.FactRows.{FactRows}
use Rattle.segment_body.specs.BodyOf.{BodyOf}
use Rattle.fact_reader.specs.BodyRows.{body_rows, rows_in}
use Rattle.fact_reader.proofs.BatchFacts.{later_at, batch_fits, body_rows-append, body_rows-fit, rows_in_more, rows_in_next, rows_in_within}
use Rattle.fact_reader.proofs.pieces.add_pieces.Goals as goal

pub add_rows-requires-clause-fit : goal.add_rows-requires-clause-fit
add_rows-requires-clause-fit g c = batch_fits c.args.reader.now.catalog c.args.reader.now.header.cube c.args.snapshot.now (c.args.first + c.loop-i.i) c.piece-piece.result c.requires.fit (sym c.piece-piece.ensures.rows)

pub add_rows-requires-clause-room : goal.add_rows-requires-clause-room
add_rows-requires-clause-room g c =
    let before : List Row = rows_in (take c.loop-i.i (drop c.args.first c.args.snapshot.now)) in
    let so_far = ap (λ (b : BodyOf). length b.rows) c.loop-i.invariant.added in
    let all = length-append c.args.body.now.rows (body_rows c.args.reader.now.catalog c.args.reader.now.header before) in
    let few = body_rows-fit c.args.reader.now.catalog c.args.reader.now.header before in
    let at = sym (later_at c.args.snapshot.now c.args.first c.loop-i.i) ∙ sym c.piece-piece.ensures.rows in
    let within = rows_in_within (drop c.args.first c.args.snapshot.now) c.loop-i.i c.piece-piece.result at in
    omega (arith, so_far, all, few, within, c.requires.room)

pub returns-in_err-add_rows-clause-at_most : goal.returns-in_err-add_rows-clause-at_most
returns-in_err-add_rows-clause-at_most g c =
    let at = sym (later_at c.args.snapshot.now c.args.first c.loop-i.i) ∙ sym c.piece-piece.ensures.rows in
    let within = rows_in_within (drop c.args.first c.args.snapshot.now) c.loop-i.i c.piece-piece.result at in
    omega (arith, within, c.piece-piece.ensures.cost, c.loop-i.invariant.counted)

pub loop-i-preserved : goal.loop-i-preserved
loop-i-preserved g c =
    let at = sym (later_at c.args.snapshot.now c.args.first c.loop-i.i) ∙ sym c.piece-piece.ensures.rows in
    let before : List Row = rows_in (take c.loop-i.i (drop c.args.first c.args.snapshot.now)) in
    let had : List (List ℕ × Option ℤ) = body_rows c.args.reader.now.catalog c.args.reader.now.header before in
    let more : List (List ℕ × Option ℤ) = body_rows c.args.reader.now.catalog c.args.reader.now.header c.piece-piece.result.rows in
    let next =
    ap (λ (rows : List Row). body_rows c.args.reader.now.catalog c.args.reader.now.header rows) (rows_in_next (drop c.args.first c.args.snapshot.now) c.loop-i.i c.piece-piece.result at)
    ∙ body_rows-append c.args.reader.now.catalog c.args.reader.now.header before c.piece-piece.result.rows in
    record {
      added =
          c.in_ok-add_rows.ensures
          ∙ ap (λ (b : BodyOf). record b { rows = b.rows ++ more }) c.loop-i.invariant.added
          ∙ ap (λ (rows : List (List ℕ × Option ℤ)). record c.args.body.now { rows = rows }) (append_assoc c.args.body.now.rows had more ∙ ap (λ (rows : List (List ℕ × Option ℤ)). c.args.body.now.rows ++ rows) (sym next));
      counted = omega (arith, c.piece-piece.ensures.cost, c.loop-i.invariant.counted, rows_in_more (drop c.args.first c.args.snapshot.now) c.loop-i.i c.piece-piece.result at);
    }

pub overflow_sub-i-end : goal.overflow_sub-i-end
overflow_sub-i-end g c = omega (arith, c.pieces.ensures, c.requires.first)

pub loop-i-init : goal.loop-i-init
loop-i-init g c =
    record {
      added = ap (λ (rows : List (List ℕ × Option ℤ)). record c.args.body.now { rows = rows }) (sym (append-nil c.args.body.now.rows));
      counted = omega arith;
    }

pub piece-piece-requires : goal.piece-piece-requires
piece-piece-requires g c = omega (arith, c.pieces.ensures, c.loop-i-test.true)

pub add_rows-requires-clause-same : goal.add_rows-requires-clause-same
add_rows-requires-clause-same g c = ap (λ (b : BodyOf). b.header) c.loop-i.invariant.added ∙ c.requires.same

pub returns-in_err-add_rows-clause-at_least : goal.returns-in_err-add_rows-clause-at_least
returns-in_err-add_rows-clause-at_least g c = omega (arith, c.piece-piece.ensures.cost, c.loop-i.invariant.counted)

pub returns-clause-ok : goal.returns-clause-ok
returns-clause-ok g c =
    let all = take_all c.loop-i.i (drop c.args.first c.args.snapshot.now) (rw length-drop (omega (arith, c.pieces.ensures, c.loop-i-test.false))) in
    c.loop-i.invariant.added
    ∙ ap (λ (batches : List FactRows). record c.args.body.now { rows = c.args.body.now.rows ++ body_rows c.args.reader.now.catalog c.args.reader.now.header (rows_in batches) }) all

pub returns-clause-cost : goal.returns-clause-cost
returns-clause-cost g c =
    let all = take_all c.loop-i.i (drop c.args.first c.args.snapshot.now) (rw length-drop (omega (arith, c.pieces.ensures, c.loop-i-test.false))) in
    c.loop-i.invariant.counted ∙ ap (λ (batches : List FactRows). c.args.steps.now + length (rows_in batches)) all

pub returns-clause-at_least : goal.returns-clause-at_least
returns-clause-at_least g c = omega (arith, c.loop-i.invariant.counted)

pub returns-clause-at_most : goal.returns-clause-at_most
returns-clause-at_most g c =
    let all = take_all c.loop-i.i (drop c.args.first c.args.snapshot.now) (rw length-drop (omega (arith, c.pieces.ensures, c.loop-i-test.false))) in
    let counted = ap (λ (batches : List FactRows). length (rows_in batches)) all in
    omega (arith, c.loop-i.invariant.counted, counted)
