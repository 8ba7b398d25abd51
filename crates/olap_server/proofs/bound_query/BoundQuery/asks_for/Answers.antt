-- That `asks_for` ensures what it says, may call `field` and keeps what holds at each turn.
use Rattle.std.proofs.Common.{◌≡◌, ◌∙◌, Some, true, false, map, length, sym, ap, arith, bytes_eq}
use Rattle.olap_meaning.specs.Records.{column_place}
use Rattle.csv_records.proofs.PlaceFacts.{place_within}
use Rattle.olap_server.proofs.PlaceFacts.{place_of_item, asked_from, not_true, not_false}
use Rattle.olap_server.proofs.bound_query.BoundQuery.asks_for.Goals as goal

pub field-requires : goal.field-requires
field-requires c =
    let pair = c.pair-item.result in
    let header = c.self.inside.header in
    let places : map (λ place. Some place) c.self.inside.filters.items ≡ map (λ p. column_place p.0 header) c.pairs-pair-items.result.now = rw c.pairs-pair-items.ensures c.self.invariant.filters_found in
    let told = place_of_item (λ p. column_place p.0 header) c.self.inside.filters.items c.pairs-pair-items.result.now places c.loop-i.i pair c.loop-i-test.true c.pair-item.is in
    let within = place_within pair.0 header c.index.result.now (told.1 c.index.result.now c.index.ensures) in
    let same : length header ≡ length c.args.self.now.header = ap (λ b. length b.header) c.self.view_is in
    omega arith

pub returns-then-ne : goal.returns-then-ne
returns-then-ne c =
    let same = ap (λ b. b.header) c.self.view_is in
    let places : map (λ place. Some place) c.self.inside.filters.items ≡ map (λ p. column_place p.0 c.args.self.now.header) c.pairs-pair-items.result.now = rw (c.pairs-pair-items.ensures, ← same) c.self.invariant.filters_found in
    let here = asked_from c.args.self.now.header c.args.row.now c.self.inside.filters.items c.pairs-pair-items.result.now places c.loop-i.i c.pair-item.result c.loop-i-test.true c.pair-item.is c.index.result.now c.index.ensures c.field.result.now c.field.ensures in
    let text = c.as_bytes.ensures.value ∙ c.as_str.ensures in
    let other : bytes_eq c.pair-item.result.1 c.field.result.now ≡ false = ap (λ t. bytes_eq t c.field.result.now) (sym text) ∙ not_true _ c.if-ne.ensures in
    sym (rw other at here) ∙ c.loop-i.invariant

pub loop-i-preserved : goal.loop-i-preserved
loop-i-preserved c =
    let same = ap (λ b. b.header) c.self.view_is in
    let places : map (λ place. Some place) c.self.inside.filters.items ≡ map (λ p. column_place p.0 c.args.self.now.header) c.pairs-pair-items.result.now = rw (c.pairs-pair-items.ensures, ← same) c.self.invariant.filters_found in
    let here = asked_from c.args.self.now.header c.args.row.now c.self.inside.filters.items c.pairs-pair-items.result.now places c.loop-i.i c.pair-item.result c.loop-i-test.true c.pair-item.is c.index.result.now c.index.ensures c.field.result.now c.field.ensures in
    let text = c.as_bytes.ensures.value ∙ c.as_str.ensures in
    let equal : bytes_eq c.pair-item.result.1 c.field.result.now ≡ true = ap (λ t. bytes_eq t c.field.result.now) (sym text) ∙ not_false _ c.if-ne.ensures in
    sym (rw equal at here) ∙ c.loop-i.invariant
