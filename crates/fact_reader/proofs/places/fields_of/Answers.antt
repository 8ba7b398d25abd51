-- That `fields_of` ensures what it says, may call what it calls and keeps what holds at each turn.
use Rattle.std.proofs.Common.{◌∙◌, ℕ, List, [], ◌∷◌, ◌++◌, take, ap, arith, map, sym}
use Rattle.std.proofs.lemmas.List.{map_push, take_all, take_more}
use Rattle.std.proofs.lemmas.Option.{slice_get_within}
use Rattle.olap_meaning.specs.declared.cells.Allowed.{Allowed}
use Rattle.olap_catalog.specs.Columns.{column_texts}
use Rattle.fact_reader.proofs.RowFacts.{column_there}
use Rattle.fact_reader.proofs.places.fields_of.Goals as goal

pub field_of-requires : goal.field_of-requires
field_of-requires c =
    let within = rw c.as_slice-columns.ensures at c.loop-column-test.true in
    let is = rw c.as_slice-columns.ensures at c.column-item.is in
    let there = column_there c.args.catalog.now c.args.header.now c.loop-column.column-index c.column-item.result c.requires within is in
    slice_get_within c.args.catalog.now.columns c.column-item.result.0 there.own there.stands

pub loop-column-init : goal.loop-column-init
loop-column-init c = record { told = ap (map (λ field. field.now)) c.in_ok-fields.ensures.items; len = c.in_ok-fields.ensures.len; room = c.in_ok-fields.ensures.exact }

pub push_reserved-requires : goal.push_reserved-requires
push_reserved-requires c = omega (arith, c.loop-column.invariant.len, c.loop-column.invariant.room, c.loop-column-test.true)

pub loop-column-preserved : goal.loop-column-preserved
loop-column-preserved c =
    let texts : (ℕ × Allowed) → List (List ℕ) = λ column. column_texts c.args.catalog.now column.0 in
    let next = take_more c.as_slice-columns.result.now c.loop-column.column-index c.column-item.result c.loop-column-test.true ∙ ap (λ (own : ℕ × Allowed). take c.loop-column.column-index c.as_slice-columns.result.now ++ own ∷ []) (sym c.column-item.is) in
    record {
      told =
          ap (map (λ field. field.now)) c.push_reserved.ensures.items
          ∙ map_push (λ field. field.now) c.loop-column.fields.items c.field_of.result
          ∙ (λ j. c.loop-column.invariant.told j ++ c.field_of.ensures j ∷ [])
          ∙ sym (ap (map texts) next ∙ map_push texts (take c.loop-column.column-index c.as_slice-columns.result.now) c.column-item.result);
      len = omega (arith, c.push_reserved.ensures.len, c.loop-column.invariant.len);
      room = c.push_reserved.ensures.capacity ∙ c.loop-column.invariant.room;
    }

pub returns : goal.returns
returns c =
    let texts = λ (columns : List (ℕ × Allowed)). map (λ (column : ℕ × Allowed). column_texts c.args.catalog.now column.0) columns in
    c.loop-column.invariant.told ∙ ap texts (take_all c.loop-column.column-index c.as_slice-columns.result.now c.loop-column-test.false ∙ c.as_slice-columns.ensures)
