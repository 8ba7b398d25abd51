-- That `add_blocks` may call `place_rows` and `add_block_to_each`, and keeps what holds at each turn.
use Rattle.std.proofs.Common.{◌∙◌, ◌≤◌, ◌+◌, ℕ, ℤ, List, Option, All, append-nil, length, length-append, map, take, refl, ap, sym, subst, arith}
use Rattle.std.proofs.lemmas.List.{length-map, length-take}
use Rattle.olap_meaning.specs.declared.TheConstants.{ROW_LIMIT}
use Rattle.segment_body.specs.BodyOf.{BodyOf, different_values}
use Rattle.fact_reader.specs.declared.blocks.PlacedRow.{PlacedRow}
use Rattle.fact_reader.specs.Blocks.{IsBehind, valued_row, valued_rows, with_block}
use Rattle.fact_reader.specs.BodyRows.{body_rows, with_rows}
use Rattle.fact_reader.specs.Reading.{ReaderOf, reader_of}
use Rattle.fact_reader.proofs.BatchFacts.{body_rows-fit}
use Rattle.fact_reader.proofs.BlockFacts.{IsBetween, alike_behind, alike_stay, block_added, blocks_added, blocks_fit, like_each, none_more, readers_stay}
use Rattle.fact_reader.proofs.each.add_blocks.Goals as goal

pub loop-from-init : goal.loop-from-init
loop-from-init c = record {
  within = omega arith;
  first = ap (λ (rows : List (List ℕ × Option ℤ)). record c.args.first.now { rows = rows }) (sym (append-nil c.args.first.now.rows));
  others = sym (none_more c.args.catalog.now c.args.others.now);
}

pub place_rows-requires-clause-room : goal.place_rows-requires-clause-room
place_rows-requires-clause-room c =
    let so_far : List (List ℕ × Option ℤ) = body_rows c.args.catalog.now c.args.first.now.header (take c.loop-from.from c.args.piece.now.rows) in
    omega (
      arith,
      ap (λ (b : BodyOf). length b.rows) c.loop-from.invariant.first,
      length-append c.args.first.now.rows so_far,
      body_rows-fit c.args.catalog.now c.args.first.now.header (take c.loop-from.from c.args.piece.now.rows),
      length-take c.loop-from.from c.args.piece.now.rows,
      c.requires.room,
      c.min.ensures,
      c.len-rows.ensures.rows,
      c.loop-from-test.true,
    )

pub add_block_to_each-requires-clause-readers : goal.add_block_to_each-requires-clause-readers
add_block_to_each-requires-clause-readers c =
    c.requires.readers
    ∙ sym (ap (map (reader_of c.args.catalog.now)) c.loop-from.invariant.others ∙ readers_stay c.args.catalog.now (take c.loop-from.from c.args.piece.now.rows) c.args.others.now)

pub add_block_to_each-requires-clause-behind : goal.add_block_to_each-requires-clause-behind
add_block_to_each-requires-clause-behind c =
    let catalog = c.args.catalog.now in
    let so_far = take c.loop-from.from c.args.piece.now.rows in
    let rows : List (ℕ × List ℕ) = valued_rows (different_values c.place_rows.new.body.rows) c.as_slice.result.now in
    let placed = ap (valued_rows (different_values c.place_rows.new.body.rows)) c.as_slice.ensures.value in
    let first =
    c.in_ok-place_rows.ensures.body
    ∙ ap (λ (r : ReaderOf). with_block r.catalog c.args.piece.now (valued_rows (different_values c.place_rows.new.body.rows) c.place_rows.new.block.items) c.loop-from.first) c.requires.reader
    ∙ ap (λ (own : List (ℕ × List ℕ)). with_block catalog c.args.piece.now own c.loop-from.first) (sym placed)
    ∙ ap (with_block catalog c.args.piece.now rows) c.loop-from.invariant.first in
    subst (λ (body : BodyOf). All (IsBehind body rows) c.loop-from.others) (sym first)
    (subst (All (IsBehind (with_block catalog c.args.piece.now rows (with_rows catalog so_far c.args.first.now)) rows)) (sym c.loop-from.invariant.others)
    (alike_behind catalog c.args.piece.now rows (map (with_rows catalog so_far) c.args.others.now) (with_rows catalog so_far c.args.first.now) (alike_stay catalog so_far c.args.others.now c.args.first.now c.requires.alike)))

pub add_block_to_each-requires-clause-room : goal.add_block_to_each-requires-clause-room
add_block_to_each-requires-clause-room c =
    let catalog = c.args.catalog.now in
    let rows : List (ℕ × List ℕ) = valued_rows (different_values c.place_rows.new.body.rows) c.place_rows.new.block.items in
    let reader = c.requires.reader in
    let between : IsBetween catalog c.args.first.now.header c.args.piece.now c.loop-from.from (c.loop-from.from + c.min.result) rows = record { between = rw reader at c.in_ok-place_rows.ensures.rows } in
    let fits = blocks_fit catalog c.args.first.now.header c.args.piece.now c.loop-from.from (c.loop-from.from + c.min.result) ROW_LIMIT rows c.args.others.now (like_each c.args.others.now c.args.first.now c.requires.alike) between c.requires.rooms in
    let long = length-map c.place_rows.new.block.items (valued_row (different_values c.place_rows.new.body.rows)) in
    let same = ap (λ (own : List PlacedRow). length own) c.as_slice.ensures.value in
    subst (λ (bodies : List BodyOf). All (λ (body : BodyOf). length body.rows + length c.as_slice.result.now ≤ ROW_LIMIT) bodies) (sym c.loop-from.invariant.others)
    (λ k d within. omega (arith, fits k d within, long, same))

pub loop-from-preserved : goal.loop-from-preserved
loop-from-preserved c =
    let catalog = c.args.catalog.now in
    let to = c.loop-from.from + c.min.result in
    let so_far = take c.loop-from.from c.args.piece.now.rows in
    let rows : List (ℕ × List ℕ) = valued_rows (different_values c.place_rows.new.body.rows) c.place_rows.new.block.items in
    let reader = c.requires.reader in
    let between : IsBetween catalog c.args.first.now.header c.args.piece.now c.loop-from.from to rows = record { between = rw reader at c.in_ok-place_rows.ensures.rows } in
    let placed = ap (valued_rows (different_values c.place_rows.new.body.rows)) c.as_slice.ensures.value in
    record {
      within = omega (arith, c.min.ensures, c.len-rows.ensures.rows, c.loop-from-test.true);
      first =
          c.in_ok-place_rows.ensures.body
          ∙ ap (λ (r : ReaderOf). with_block r.catalog c.args.piece.now rows c.loop-from.first) reader
          ∙ ap (with_block catalog c.args.piece.now rows) c.loop-from.invariant.first
          ∙ block_added catalog c.args.first.now.header c.args.piece.now c.loop-from.from to rows c.args.first.now (record { own_cube = refl; own_columns = refl }) between;
      others =
          c.in_ok-add_block_to_each.ensures
          ∙ ap (λ (own : List (ℕ × List ℕ)). map (with_block catalog c.args.piece.now own) c.loop-from.others) placed
          ∙ ap (map (with_block catalog c.args.piece.now rows)) c.loop-from.invariant.others
          ∙ blocks_added catalog c.args.first.now.header c.args.piece.now c.loop-from.from to rows c.args.others.now (like_each c.args.others.now c.args.first.now c.requires.alike) between;
    }
