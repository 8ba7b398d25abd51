-- That `place_filters` ensures `fault` and keeps what holds at each turn.
use Rattle.std.proofs.Common.{◌≡◌, ◌∙◌, ℕ, List, Some, None, sym, ap}
use Rattle.olap_meaning.specs.Records.{column_place}
use Rattle.olap_server.proofs.FaultFacts.{missed_or_not}
use Rattle.csv_records.proofs.PlaceFacts.{missing_from}
use Rattle.olap_server.proofs.PlaceFacts.{placed_more}
use Rattle.olap_server.proofs.bound_query.place_filters.Goals as goal

pub returns-in_default-clause-fault : goal.returns-in_default-clause-fault
returns-in_default-clause-fault c =
    let pair = c.pair-item.result in
    let header = c.args.header.now in
    let none : column_place pair.0 header ≡ None = sym (c.find.ensures ∙ ap (λ name. column_place name header) c.as_str-name.ensures) ∙ c.in_default.is in
    let rest = missing_from (λ (p : List ℕ × List ℕ). p.0) c.args.pairs.now header c.loop-pair.pair-index pair c.loop-pair-test.true c.pair-item.is in
    let missing = sym c.loop-pair.invariant.rest_missing ∙ (rw none at rest) in
    missed_or_not c.missing_column.result _ pair.0 missing (rw c.as_str-name.ensures at c.missing_column.ensures)

pub loop-pair-preserved : goal.loop-pair-preserved
loop-pair-preserved c =
    let pair = c.pair-item.result in
    let header = c.args.header.now in
    let found : column_place pair.0 header ≡ Some c.in-Some.place = sym (c.find.ensures ∙ ap (λ name. column_place name header) c.as_str-name.ensures) ∙ c.in-Some.is in
    let rest = missing_from (λ (p : List ℕ × List ℕ). p.0) c.args.pairs.now header c.loop-pair.pair-index pair c.loop-pair-test.true c.pair-item.is in
    record {
      placed = rw c.in_ok-push.ensures.items (placed_more (λ p. column_place p.0 header) c.loop-pair.places.items c.args.pairs.now c.loop-pair.pair-index pair c.in-Some.place c.loop-pair-test.true c.pair-item.is c.loop-pair.invariant.placed found);
      rest_missing = sym (rw found at rest) ∙ c.loop-pair.invariant.rest_missing;
    }
