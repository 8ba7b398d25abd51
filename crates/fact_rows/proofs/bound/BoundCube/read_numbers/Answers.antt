-- Column by column, the value is the one that the record's field says, or the fault is the definition's.
use Rattle.std.proofs.Common.{◌∙◌, ◌||◌, ◌++◌, ap, sym, arith, Some, is_some, append_assoc}
use Rattle.olap_meaning.specs.Records.{column_place, is_null, number}
use Rattle.fact_rows.specs.declared.fault.BatchFault.TheVariants.{NotNumber}
use Rattle.fact_rows.specs.Bound.{AreNumbersPlaced}
use Rattle.csv_records.proofs.PlaceFacts.{csv_parts, field_there, place_within, same_at}
use Rattle.fact_rows.proofs.RowFacts.{no_value, numbers_from, told_or_not, value_there}
use Rattle.fact_rows.proofs.bound.BoundCube.read_numbers.Goals as goal

pub field-requires : goal.field-requires
field-requires c =
    let header = c.args.self.now.header in
    let column = c.column-item.result in
    let placed : AreNumbersPlaced header c.as_slice-column-items.result.now = rw (c.as_slice-column-items.ensures.value, ← ap (λ b. b.header) c.self.view_is) c.self.invariant.numbers_placed in
    let found = same_at (λ k. column_place k.name header) (λ k. Some k.place) c.as_slice-column-items.result.now placed c.loop-column.column-index column c.loop-column-test.true c.column-item.is in
    let within = place_within column.name header column.place found in
    let width = (csv_parts header c.args.row.now c.requires).0 in
    omega arith

pub returns-in_default-clause-err : goal.returns-in_default-clause-err
returns-in_default-clause-err c =
    let header = c.args.self.now.header in
    let column = c.column-item.result in
    let placed : AreNumbersPlaced header c.as_slice-column-items.result.now = rw (c.as_slice-column-items.ensures.value, ← ap (λ b. b.header) c.self.view_is) c.self.invariant.numbers_placed in
    let found = same_at (λ k. column_place k.name header) (λ k. Some k.place) c.as_slice-column-items.result.now placed c.loop-column.column-index column c.loop-column-test.true c.column-item.is in
    let field = field_there header c.args.row.now column.name c.field.result.now column.place found c.field.ensures in
    let none = no_value (is_null c.field.result.now || is_some (number c.field.result.now)) (number c.field.result.now) c.value_of.result c.value_of.ensures c.in_default.is in
    let step = numbers_from header c.args.n c.args.row.now c.as_slice-column-items.result.now c.loop-column.column-index column c.loop-column-test.true c.column-item.is in
    let fault = rw (field, none) at step.0 in
    told_or_not c.not_number.result (NotNumber c.args.n column.name) _ (sym c.loop-column.invariant.rest_faults ∙ fault) c.not_number.ensures

pub loop-column-preserved : goal.loop-column-preserved
loop-column-preserved c =
    let header = c.args.self.now.header in
    let column = c.column-item.result in
    let placed : AreNumbersPlaced header c.as_slice-column-items.result.now = rw (c.as_slice-column-items.ensures.value, ← ap (λ b. b.header) c.self.view_is) c.self.invariant.numbers_placed in
    let found = same_at (λ k. column_place k.name header) (λ k. Some k.place) c.as_slice-column-items.result.now placed c.loop-column.column-index column c.loop-column-test.true c.column-item.is in
    let field = field_there header c.args.row.now column.name c.field.result.now column.place found c.field.ensures in
    let there = value_there (is_null c.field.result.now || is_some (number c.field.result.now)) (number c.field.result.now) c.value_of.result c.in-Some.value c.value_of.ensures c.in-Some.is in
    let step = numbers_from header c.args.n c.args.row.now c.as_slice-column-items.result.now c.loop-column.column-index column c.loop-column-test.true c.column-item.is in
    let sound = rw (field, there.0) at step.0 in
    let here = rw field at step.1 in
    record {
      rest_faults = sym sound ∙ c.loop-column.invariant.rest_faults;
      rest_numbers = rw (c.in_ok-push.ensures.items, append_assoc, there.1) (ap (λ rest. c.loop-column.numbers.items ++ rest) (sym here) ∙ c.loop-column.invariant.rest_numbers);
    }
