-- That `place_rows` keeps what holds at each turn.
use Rattle.std.proofs.Common.{◌≡◌, ◌∙◌, ◌++◌, ℕ, List, [], Option, Some, length, length-append, map, take, sym, ap, arith}
use Rattle.std.specs.Prelude.{option_map, option_to_list, slice_get}
use Rattle.std.proofs.lemmas.List.{length-map}
use Rattle.std.proofs.lemmas.Option.{slice_get-get_or}
use Rattle.olap_meaning.specs.declared.tables.Row.{Row}
use Rattle.segment_body.specs.BodyOf.{BodyOf, different_values}
use Rattle.fact_reader.specs.Blocks.{kept_rows, own_row, valued_row, valued_rows, with_block}
use Rattle.fact_reader.specs.BodyRows.{body_row}
use Rattle.olap_meaning.specs.Budget.{row_values}
use Rattle.fact_reader.specs.Reading.{row_at}
use Rattle.fact_reader.proofs.BlockFacts.{block_more, one_more, read_next}
use Rattle.fact_reader.proofs.reader.RowReader.place_rows.Goals as goal

pub loop-i-preserved : goal.loop-i-preserved
loop-i-preserved c =
    let catalog = c.args.self.now.catalog in
    let header = c.args.self.now.header in
    let piece = c.args.piece.now in
    let before : List (Row × List ℕ) = kept_rows catalog header (take c.args.from piece.rows) in
    let at : slice_get piece.rows c.loop-i.i ≡ Some (row_at piece c.loop-i.i) = slice_get-get_or piece.rows c.loop-i.i (record { leaves = []; values = [] }) (omega (arith, c.requires.there, c.loop-i-test.true)) in
    let rows = c.in_ok-place_row.ensures.rows in
    let so_far : List (ℕ × List ℕ) = valued_rows (different_values c.loop-i.body.rows) c.loop-i.block.items in
    let next : Option (ℕ × List ℕ) = option_map (λ (values : List ℕ). (c.loop-i.i, values)) (row_values catalog header (row_at piece c.loop-i.i)) in
    record {
      few =
          omega (
            arith,
            c.loop-i.invariant.few,
            ap (λ (own : List (ℕ × List ℕ)). length own) rows,
            length-append so_far (option_to_list next),
            length-map c.place_row.new.block.items (valued_row (different_values c.place_row.new.body.rows)),
            length-map c.loop-i.block.items (valued_row (different_values c.loop-i.body.rows)),
            one_more next,
          );
      placed = c.in_ok-place_row.ensures.placed;
      rows = ap (λ (own : List (ℕ × List ℕ)). before ++ map (own_row piece) own) rows ∙ read_next catalog header piece c.loop-i.i before so_far at c.loop-i.invariant.rows;
      body =
          c.in_ok-place_row.ensures.body
          ∙ ap (λ (b : BodyOf). record b { rows = b.rows ++ option_to_list (body_row catalog header (row_at piece c.loop-i.i)) }) c.loop-i.invariant.body
          ∙ sym (block_more catalog header piece c.loop-i.i so_far c.args.body.now c.requires.same)
          ∙ ap (λ (own : List (ℕ × List ℕ)). with_block catalog piece own c.args.body.now) (sym rows);
    }
