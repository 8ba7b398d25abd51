-- That `place_row` ensures what it says and may call `add_placed`.
use Rattle.std.proofs.Common.{◌≡◌, ◌∙◌, ◌++◌, ◌∷◌, [], ℕ, ℤ, List, Option, Some, All, sym, ap, subst}
use Rattle.std.specs.Prelude.{option_map, option_to_list}
use Rattle.std.proofs.lemmas.List.Elements.{All-push}
use Rattle.std.proofs.lemmas.Option.{slice_get_within}
use Rattle.olap_meaning.specs.Worth.{row_value}
use Rattle.segment_body.specs.BodyOf.{BodyOf, different_values}
use Rattle.segment_body.proofs.ValueFacts.{are_allowed_of}
use Rattle.fact_reader.specs.Blocks.{IsPlacedRow, valued_rows}
use Rattle.olap_meaning.specs.Budget.{row_values}
use Rattle.fact_reader.specs.Reading.{row_at}
use Rattle.fact_reader.proofs.BlockFacts.{placed_kept, valued_more}
use Rattle.fact_reader.proofs.reader.RowReader.place_row.Goals as goal

pub add_placed-requires-clause-allowed : goal.add_placed-requires-clause-allowed
add_placed-requires-clause-allowed c =
    let kept = rw c.if-kept.true at c.in_ok-kept.ensures in
    rw (c.requires.same, c.as_slice.ensures.value)
    (are_allowed_of (row_value c.args.self.now.catalog c.args.self.now.header.cube (row_at c.args.piece.now c.args.i)) c.args.self.now.header.columns c.values.new.values.items kept)

pub returns-in_ok-push-clause-placed : goal.returns-in_ok-push-clause-placed
returns-in_ok-push-clause-placed c =
    let piece = c.args.piece.now in
    let old = c.args.body.now.rows in
    let row : List ℕ × Option ℤ = (c.as_slice.result.now, c.number.result) in
    let rows = ap (λ (b : BodyOf). b.rows) c.in_ok-group.ensures.ok in
    let own : IsPlacedRow piece (different_values c.add_placed.new.self.rows) (record { row = c.args.i; group = c.in_ok-group.group }) =
    record { within = c.requires.row; grouped = slice_get_within (different_values c.add_placed.new.self.rows) c.in_ok-group.group c.as_slice.result.now c.in_ok-group.ensures.place } in
    let others = subst (λ (all : List (List ℕ × Option ℤ)). All (IsPlacedRow piece (different_values all)) c.args.block.now.items) (sym rows) (placed_kept piece old row c.args.block.now.items c.requires.placed) in
    subst (All (IsPlacedRow piece (different_values c.add_placed.new.self.rows))) (sym c.in_ok-push.ensures.items)
    (All-push (IsPlacedRow piece (different_values c.add_placed.new.self.rows)) c.args.block.now.items (record { row = c.args.i; group = c.in_ok-group.group }) others own)

pub returns-in_ok-push-clause-rows : goal.returns-in_ok-push-clause-rows
returns-in_ok-push-clause-rows c =
    let piece = c.args.piece.now in
    let old = c.args.body.now.rows in
    let rows = ap (λ (b : BodyOf). b.rows) c.in_ok-group.ensures.ok in
    let kept : row_values c.args.self.now.catalog c.args.self.now.header (row_at piece c.args.i) ≡ Some c.as_slice.result.now = (rw c.if-kept.true at c.in_ok-kept.ensures) ∙ ap Some (sym c.as_slice.ensures.value) in
    let there = rw rows at c.in_ok-group.ensures.place in
    ap (λ (all : List (List ℕ × Option ℤ)). valued_rows (different_values all) c.push.new.self.items) rows
    ∙ ap (valued_rows (different_values (old ++ (c.as_slice.result.now, c.number.result) ∷ []))) c.in_ok-push.ensures.items
    ∙ valued_more piece old c.args.block.now.items c.args.i c.in_ok-group.group c.as_slice.result.now c.number.result c.requires.placed there
    ∙ ap (λ (values : Option (List ℕ)). valued_rows (different_values old) c.args.block.now.items ++ option_to_list (option_map (λ values. (c.args.i, values)) values)) (sym kept)
