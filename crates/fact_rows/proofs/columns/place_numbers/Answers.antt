-- Measure by measure, the columns are those that have appeared so far, each with its place.
use Rattle.std.proofs.Common.{◌≡◌, ◌∙◌, ap, sym, map, Some, true, false, bytes_eq}
use Rattle.std.proofs.lemmas.List.{map-append}
use Rattle.std.specs.List.{list_any}
use Rattle.olap_meaning.specs.Records.{column_place}
use Rattle.csv_records.proofs.PlaceFacts.{missing_from}
use Rattle.fact_rows.proofs.PlaceFacts.{placed_more, seen_again, seen_first}
use Rattle.fact_rows.proofs.columns.place_numbers.Goals as goal

pub loop-measure-preserved-then-is_among : goal.loop-measure-preserved-then-is_among
loop-measure-preserved-then-is_among c =
    let measure = c.measure-item.result in
    let header = c.args.header.now in
    let found : column_place measure.column header ≡ Some c.in-Some.place = sym (c.find.ensures ∙ ap (λ name. column_place name header) c.as_str.ensures) ∙ c.in-Some.is in
    let rest = missing_from (λ m. m.column) c.args.measures.now header c.loop-measure.measure-index measure c.loop-measure-test.true c.measure-item.is in
    let among : list_any (bytes_eq measure.column) (map (λ column. column.name) c.loop-measure.numbers.items) ≡ true = rw (c.as_str-in-loop-measure.ensures, c.as_slice.ensures.value) at (sym c.is_among.ensures ∙ c.if-is_among.true) in
    record {
      named = seen_again (λ m. m.column) c.args.measures.now c.loop-measure.measure-index measure (map (λ column. column.name) c.loop-measure.numbers.items) c.loop-measure-test.true c.measure-item.is c.loop-measure.invariant.named among;
      placed = c.loop-measure.invariant.placed;
      rest_missing = sym (rw found at rest) ∙ c.loop-measure.invariant.rest_missing;
    }

pub loop-measure-preserved : goal.loop-measure-preserved
loop-measure-preserved c =
    let measure = c.measure-item.result in
    let header = c.args.header.now in
    let found : column_place measure.column header ≡ Some c.in-Some.place = sym (c.find.ensures ∙ ap (λ name. column_place name header) c.as_str.ensures) ∙ c.in-Some.is in
    let rest = missing_from (λ m. m.column) c.args.measures.now header c.loop-measure.measure-index measure c.loop-measure-test.true c.measure-item.is in
    let among : list_any (bytes_eq measure.column) (map (λ column. column.name) c.loop-measure.numbers.items) ≡ false = rw (c.as_str-in-loop-measure.ensures, c.as_slice.ensures.value) at (sym c.is_among.ensures ∙ c.if-is_among.false) in
    let added = seen_first (λ m. m.column) c.args.measures.now c.loop-measure.measure-index measure (map (λ column. column.name) c.loop-measure.numbers.items) c.loop-measure-test.true c.measure-item.is c.loop-measure.invariant.named among in
    record {
      named = rw (c.in_ok-push.ensures.items, map-append, c.in_ok-copy.ensures) added;
      placed = rw c.in_ok-push.ensures.items (placed_more header c.loop-measure.numbers.items _ c.loop-measure.invariant.placed (rw c.in_ok-copy.ensures found));
      rest_missing = sym (rw found at rest) ∙ c.loop-measure.invariant.rest_missing;
    }
