-- That `add_block_to_each` may call `add_block` and keeps what holds at each turn.
use Rattle.std.proofs.Common.{◌∙◌, ◌<◌, ◌≤◌, ◌+◌, ℕ, List, length, get_or, ap, sym, subst, arith}
use Rattle.std.specs.Prelude.{IsTrue}
use Rattle.std.proofs.lemmas.List.Edits.{map_over_more}
use Rattle.olap_meaning.specs.declared.TheConstants.{ROW_LIMIT}
use Rattle.segment_body.specs.BodyOf.{BodyOf, different_values}
use Rattle.fact_reader.specs.Blocks.{IsBehind, valued_rows, with_block}
use Rattle.fact_reader.specs.BodyRows.{is_batch}
use Rattle.fact_reader.specs.Reading.{ReaderOf, reader_of}
use Rattle.fact_reader.proofs.BlockFacts.{mapped_to, same_at}
use Rattle.fact_reader.proofs.each.add_block_to_each.Goals as goal

pub add_block-requires-clause-fit : goal.add_block-requires-clause-fit
add_block-requires-clause-fit c =
    let d : BodyOf = c.index-bodies-k.result in
    let within : c.loop-k.k < length c.args.bodies.now = omega (arith, c.loop-k-test.true) in
    let reader = c.index-readers-k.is ∙ mapped_to (reader_of c.args._catalog.now) c.args.readers.now c.args.bodies.now c.loop-k.k c.index-readers-k.result d c.requires.readers within in
    subst (λ (r : ReaderOf). IsTrue (is_batch r.catalog r.header.cube c.args.piece.now)) (sym reader)
    (subst (λ (cube : ℕ). IsTrue (is_batch c.args._catalog.now cube c.args.piece.now)) (sym (c.requires.behind c.loop-k.k d within).cube) c.requires.fit)

pub add_block-requires-clause-behind : goal.add_block-requires-clause-behind
add_block-requires-clause-behind c =
    let d : BodyOf = c.index-bodies-k.result in
    let rows : List (ℕ × List ℕ) = valued_rows (different_values c.args.first.now.rows) c.args.block.now in
    let within : c.loop-k.k < length c.args.bodies.now = omega (arith, c.loop-k-test.true) in
    let same = same_at (with_block c.args._catalog.now c.args.piece.now rows) c.loop-k.bodies c.args.bodies.now c.loop-k.k d c.loop-k.invariant within in
    subst (IsBehind c.args.first.now rows) (sym same) (c.requires.behind c.loop-k.k d within)

pub add_block-requires-clause-room : goal.add_block-requires-clause-room
add_block-requires-clause-room c =
    let d : BodyOf = c.index-bodies-k.result in
    let rows : List (ℕ × List ℕ) = valued_rows (different_values c.args.first.now.rows) c.args.block.now in
    let within : c.loop-k.k < length c.args.bodies.now = omega (arith, c.loop-k-test.true) in
    let same = same_at (with_block c.args._catalog.now c.args.piece.now rows) c.loop-k.bodies c.args.bodies.now c.loop-k.k d c.loop-k.invariant within in
    subst (λ (body : BodyOf). length body.rows + length c.args.block.now ≤ ROW_LIMIT) (sym same) (c.requires.room c.loop-k.k d within)

pub loop-k-preserved : goal.loop-k-preserved
loop-k-preserved c =
    let d : BodyOf = c.index-bodies-k.result in
    let rows : List (ℕ × List ℕ) = valued_rows (different_values c.args.first.now.rows) c.args.block.now in
    let within : c.loop-k.k < length c.args.bodies.now = omega (arith, c.loop-k-test.true) in
    let reader = c.index-readers-k.is ∙ mapped_to (reader_of c.args._catalog.now) c.args.readers.now c.args.bodies.now c.loop-k.k c.index-readers-k.result d c.requires.readers within in
    let added =
    c.in_ok-add_block.ensures
    ∙ ap (λ (r : ReaderOf). with_block r.catalog c.args.piece.now rows (get_or c.loop-k.bodies c.loop-k.k d)) reader
    ∙ ap (with_block c.args._catalog.now c.args.piece.now rows) (sym c.index-bodies-k.is) in
    rw added (map_over_more (with_block c.args._catalog.now c.args.piece.now rows) c.args.bodies.now c.loop-k.bodies c.loop-k.k d within c.loop-k.invariant c.index-bodies-k.is)
