-- That `add_pieces_to_each` ensures `at_most`, may call `add_piece` and keeps what holds at each turn.
use Rattle.std.proofs.Common.{◌∙◌, ◌≤◌, ◌+◌, List, All, length, map, take, get_or, ap, sym, subst, arith}
use Rattle.std.specs.Prelude.{IsTrue}
use Rattle.std.proofs.lemmas.List.Elements.{All-map}
use Rattle.olap_meaning.specs.declared.TheConstants.{ROW_LIMIT}
use Rattle.olap_meaning.specs.declared.tables.Row.{Row}
use Rattle.segment_body.specs.BodyOf.{BodyOf}
use Rattle.fact_reader.specs.BodyRows.{AreAlike, is_batch, rows_in, with_rows}
use Rattle.fact_reader.specs.Reading.{reader_of}
use Rattle.fact_reader.proofs.BatchFacts.{batch_fits, rows_in_more, rows_in_next, rows_in_within}
use Rattle.fact_reader.proofs.BlockFacts.{all_stay, none_more, readers_stay, room_stays, rows_twice}
use Rattle.fact_reader.proofs.each.add_pieces_to_each.Goals as goal

pub loop-i-init : goal.loop-i-init
loop-i-init g c = record { added = sym (none_more c.args.catalog.now c.args.bodies.now); counted = omega arith }

pub add_piece-requires-clause-readers : goal.add_piece-requires-clause-readers
add_piece-requires-clause-readers g c =
    c.requires.readers
    ∙ sym (ap (map (reader_of c.args.catalog.now)) c.loop-i.invariant.added ∙ readers_stay c.args.catalog.now (rows_in (take c.loop-i.i c.args.snapshot.now)) c.args.bodies.now)

pub add_piece-requires-clause-alike : goal.add_piece-requires-clause-alike
add_piece-requires-clause-alike g c =
    subst (λ (bodies : List BodyOf). All (AreAlike bodies) bodies) (sym c.loop-i.invariant.added) (all_stay c.args.catalog.now (rows_in (take c.loop-i.i c.args.snapshot.now)) c.args.bodies.now c.requires.alike)

pub add_piece-requires-clause-fit : goal.add_piece-requires-clause-fit
add_piece-requires-clause-fit g c =
    subst (λ (bodies : List BodyOf). All (λ (body : BodyOf). IsTrue (is_batch c.args.catalog.now body.header.cube c.piece-piece.result)) bodies) (sym c.loop-i.invariant.added)
    (All-map (λ (body : BodyOf). IsTrue (is_batch c.args.catalog.now body.header.cube c.piece-piece.result)) (with_rows c.args.catalog.now (rows_in (take c.loop-i.i c.args.snapshot.now))) c.args.bodies.now
    (λ k body within. batch_fits c.args.catalog.now (get_or c.args.bodies.now k body).header.cube c.args.snapshot.now c.loop-i.i c.piece-piece.result (c.requires.fit k body within) (sym c.piece-piece.ensures.rows)))

pub add_piece-requires-clause-room : goal.add_piece-requires-clause-room
add_piece-requires-clause-room g c =
    subst (λ (bodies : List BodyOf). All (λ (body : BodyOf). length body.rows + length c.piece-piece.result.rows ≤ ROW_LIMIT) bodies) (sym c.loop-i.invariant.added)
    (room_stays c.args.catalog.now (rows_in (take c.loop-i.i c.args.snapshot.now)) c.args.bodies.now (length c.piece-piece.result.rows) (length (rows_in c.args.snapshot.now)) ROW_LIMIT
    (rows_in_within c.args.snapshot.now c.loop-i.i c.piece-piece.result (sym c.piece-piece.ensures.rows)) c.requires.room)

pub returns-in_err-add_piece-clause-at_most : goal.returns-in_err-add_piece-clause-at_most
returns-in_err-add_piece-clause-at_most g c =
    let within = rows_in_within c.args.snapshot.now c.loop-i.i c.piece-piece.result (sym c.piece-piece.ensures.rows) in
    omega (arith, within, c.piece-piece.ensures.cost, c.loop-i.invariant.counted)

pub loop-i-preserved : goal.loop-i-preserved
loop-i-preserved g c =
    let at = sym c.piece-piece.ensures.rows in
    let before : List Row = rows_in (take c.loop-i.i c.args.snapshot.now) in
    record {
      added =
          c.in_ok-add_piece.ensures
          ∙ ap (map (with_rows c.args.catalog.now c.piece-piece.result.rows)) c.loop-i.invariant.added
          ∙ rows_twice c.args.catalog.now before c.piece-piece.result.rows c.args.bodies.now
          ∙ ap (λ (rows : List Row). map (with_rows c.args.catalog.now rows) c.args.bodies.now) (sym (rows_in_next c.args.snapshot.now c.loop-i.i c.piece-piece.result at));
      counted = omega (arith, c.piece-piece.ensures.cost, c.loop-i.invariant.counted, rows_in_more c.args.snapshot.now c.loop-i.i c.piece-piece.result at);
    }
