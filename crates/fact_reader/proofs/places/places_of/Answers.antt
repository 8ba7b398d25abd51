-- That `places_of` ensures what it says, may call what it calls and keeps what holds at each turn.
use Rattle.std.proofs.Common.{◌∙◌, ℕ, List, Some, ap, arith, map, refl, sym}
use Rattle.std.proofs.lemmas.List.{take_all}
use Rattle.std.proofs.lemmas.Option.{slice_get_within}
use Rattle.olap_meaning.specs.declared.cells.Allowed.{Allowed}
use Rattle.fact_reader.specs.Reading.{place_of}
use Rattle.fact_reader.proofs.FactPlaces.{place_given, placed_next}
use Rattle.fact_reader.proofs.RowFacts.{column_there, place_there}
use Rattle.fact_reader.proofs.places.places_of.Goals as goal

pub column-requires : goal.column-requires
column-requires c =
    let within = rw c.as_slice-columns.ensures at c.loop-column-test.true in
    let is = rw c.as_slice-columns.ensures at c.column-item.is in
    let there = column_there c.args.catalog.now c.args.header.now c.loop-column.column-index c.column-item.result c.requires within is in
    slice_get_within c.args.catalog.now.columns c.column-item.result.0 there.own there.stands

pub unwrap-requires : goal.unwrap-requires
unwrap-requires c =
    let within = rw c.as_slice-columns.ensures at c.loop-column-test.true in
    let is = rw c.as_slice-columns.ensures at c.column-item.is in
    let there = column_there c.args.catalog.now c.args.header.now c.loop-column.column-index c.column-item.result c.requires within is in
    let place = place_there c.args.catalog.now c.args.header.now.cube c.column-item.result.0 c.cube.result.now c.column.result.now there c.cube.ensures c.column.ensures in
    rw (c.place_in.ensures, c.as_slice-dimensions.ensures, place.1) refl

pub loop-column-init : goal.loop-column-init
loop-column-init c = record { placed = ap (map (λ (place : ℕ). Some place)) c.in_ok-places.ensures.items; len = c.in_ok-places.ensures.len; room = c.in_ok-places.ensures.exact }

pub push_reserved-requires : goal.push_reserved-requires
push_reserved-requires c = omega (arith, c.loop-column.invariant.len, c.loop-column.invariant.room, c.loop-column-test.true)

pub loop-column-preserved : goal.loop-column-preserved
loop-column-preserved c =
    let found = rw c.as_slice-dimensions.ensures at (sym c.place_in.ensures ∙ c.unwrap.ensures) in
    let place = place_given c.args.catalog.now c.args.header.now.cube c.column-item.result.0 c.cube.result.now c.column.result.now c.unwrap.result c.cube.ensures c.column.ensures found in
    let placed = placed_next (λ (column : ℕ × Allowed). place_of c.args.catalog.now c.args.header.now.cube column.0) c.loop-column.places.items c.as_slice-columns.result.now c.loop-column.column-index c.column-item.result c.unwrap.result c.loop-column-test.true c.column-item.is place c.loop-column.invariant.placed in
    record {
      placed = ap (map (λ (place : ℕ). Some place)) c.push_reserved.ensures.items ∙ placed;
      len = omega (arith, c.push_reserved.ensures.len, c.loop-column.invariant.len);
      room = c.push_reserved.ensures.capacity ∙ c.loop-column.invariant.room;
    }

pub returns : goal.returns
returns c =
    let placed = λ (columns : List (ℕ × Allowed)). map (λ (column : ℕ × Allowed). place_of c.args.catalog.now c.args.header.now.cube column.0) columns in
    c.loop-column.invariant.placed ∙ ap placed (take_all c.loop-column.column-index c.as_slice-columns.result.now c.loop-column-test.false ∙ c.as_slice-columns.ensures)
