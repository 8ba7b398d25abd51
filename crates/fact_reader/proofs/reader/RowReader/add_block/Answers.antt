-- That `add_block` keeps what holds at each turn.
use Rattle.std.proofs.Common.{◌≡◌, ◌∙◌, ◌<◌, ℕ, ℤ, List, [], Option, Some, drop, length, get_or, map, ap, sym, arith}
use Rattle.std.specs.Prelude.{slice_get}
use Rattle.std.proofs.lemmas.Option.{slice_get-get_or}
use Rattle.olap_meaning.specs.declared.cells.Header.{Header}
use Rattle.segment_body.specs.BodyOf.{different_values}
use Rattle.fact_reader.specs.declared.blocks.PlacedRow.{PlacedRow}
use Rattle.fact_reader.specs.Blocks.{numbered_row, valued_row, valued_rows}
use Rattle.fact_reader.specs.BodyRows.{row_number}
use Rattle.fact_reader.specs.Reading.{row_at}
use Rattle.fact_reader.proofs.BlockFacts.{behind_so_far, group_kept, placed_next}
use Rattle.fact_reader.proofs.reader.RowReader.add_block.Goals as goal
use Rattle.fact_reader.proofs.reader.RowReader.add_block.Goals.{then-own-groups+in_ok-add_at, else-own-groups+in_ok-add}

pub loop-k-preserved : goal.loop-k-preserved
loop-k-preserved c =
    let catalog = c.args.self.now.catalog in
    let piece = c.args.piece.now in
    let values : List (List ℕ) = different_values c.args.first.now.rows in
    let own : PlacedRow = get_or c.args.block.now c.loop-k.k (record { row = 0; group = 0 }) in
    let at : slice_get c.args.block.now c.loop-k.k ≡ Some own = slice_get-get_or c.args.block.now c.loop-k.k (record { row = 0; group = 0 }) (omega (arith, c.loop-k-test.true)) in
    let number = c.number-number.ensures ∙ ap (λ (h : Header). row_number catalog h (row_at piece own.row)) (sym c.requires.same) in
    elim c.if-own-groups.branch [
      | then-own-groups+in_ok-add_at w ↦
          let within : own.group < length (different_values c.loop-k.body.rows) = omega (arith, w.if-own-groups.true, c.groups.ensures.count) in
          let there =
          group_kept c.loop-k.body.rows c.args.first.now.rows (map (λ (own : ℕ × List ℕ). own.1) (valued_rows values (drop c.loop-k.k c.args.block.now))) own.group
          (behind_so_far catalog piece values c.args.block.now c.loop-k.k c.args.first.now c.args.body.now c.loop-k.body c.requires.behind c.loop-k.invariant) within in
          let row : List ℕ × Option ℤ = (get_or (different_values c.loop-k.body.rows) own.group [], c.number-number.result) in
          let is : row ≡ numbered_row catalog c.args.body.now.header piece (valued_row values own) =
          ap (λ (vs : List ℕ). (vs, c.number-number.result)) (sym there) ∙ ap (λ (n : Option ℤ). (get_or values own.group [], n)) number in
          w.body-is ∙ placed_next catalog piece values c.args.block.now c.loop-k.k own c.args.body.now c.loop-k.body w.add_at.new.self row at c.loop-k.invariant w.in_ok-add_at.ensures.ok is
      | else-own-groups+in_ok-add w ↦
          let row : List ℕ × Option ℤ = (w.values_at.result.now, c.number-number.result) in
          let is : row ≡ numbered_row catalog c.args.body.now.header piece (valued_row values own) =
          ap (λ (vs : List ℕ). (vs, c.number-number.result)) w.values_at.ensures.values ∙ ap (λ (n : Option ℤ). (get_or values own.group [], n)) number in
          w.body-is ∙ placed_next catalog piece values c.args.block.now c.loop-k.k own c.args.body.now c.loop-k.body w.add.new.self row at c.loop-k.invariant w.in_ok-add.ensures.ok is
    ]
