-- That `cheapest_place` ensures what it says and keeps what holds at each turn.
use Rattle.std.proofs.Common.{◌≡◌, ◌∙◌, ◌-◌, ℕ, length, map, drop, sym, ap, arith}
use Rattle.std.proofs.lemmas.List.{length-map}
use Rattle.fact_reader.specs.BodyRows.{rows_in}
use Rattle.fact_reader.proofs.BatchFacts.{length-rows_in}
use Rattle.agg_tables.specs.Costs.{cheapest, read_cost, table_cost}
use Rattle.segment_load.proofs.ChoiceFacts.{all_left, left, taken}
use Rattle.segment_load.proofs.choice.cheapest_place.Goals as goal
use Rattle.segment_load.proofs.choice.cheapest_place.Goals.{then-wins, else-wins}

pub loop-k-init : goal.loop-k-init
loop-k-init c =
    let none = all_left c.args.header.now (length c.args.snapshot.now) (length (rows_in c.args.snapshot.now)) (length c.args.tables.now - 0) (map (λ table. table.value) c.args.tables.now) (length-map c.args.tables.now (λ table. table.value) ∙ omega arith) in
    record {
      chosen = sym none;
      counted = c.from-least.ensures ∙ c.rows.ensures.rows ∙ sym (length-rows_in c.args.snapshot.now) ∙ ap (read_cost (length (rows_in c.args.snapshot.now))) (sym none);
    }

pub loop-k-preserved : goal.loop-k-preserved
loop-k-preserved c =
    let rows = length (rows_in c.args.snapshot.now) in
    elim c.if-wins.branch [
      | then-wins w ↦
          let next = taken c.args.tables.now (λ table. table.value) c.args.header.now (length c.args.snapshot.now) rows c.loop-k.k c.index-tables-place.result c.loop-k.best c.loop-k.least c.loop-k-test.true c.index-tables-place.is c.loop-k.invariant.chosen c.loop-k.invariant.counted
          (sym c.wins.ensures ∙ w.if-wins.true) in
          record {
            chosen = rw w.best-is next.0;
            counted = w.least-is ∙ w.cost-least.ensures ∙ ap (table_cost rows) w.deref.ensures ∙ next.1;
          }
      | else-wins w ↦
          let next = left c.args.tables.now (λ table. table.value) c.args.header.now (length c.args.snapshot.now) rows c.loop-k.k c.index-tables-place.result c.loop-k.best c.loop-k.least c.loop-k-test.true c.index-tables-place.is c.loop-k.invariant.chosen c.loop-k.invariant.counted
          (sym c.wins.ensures ∙ w.if-wins.false) in
          record {
            chosen = rw w.best-is next.0;
            counted = rw w.least-is next.1;
          }
    ]

pub returns : goal.returns
returns c =
    let all : length c.args.tables.now - c.loop-k.k ≡ 0 = omega (arith, c.loop-k-test.false) in
    c.loop-k.invariant.chosen
    ∙ ap (λ (n : ℕ). cheapest c.args.header.now (length c.args.snapshot.now) (length (rows_in c.args.snapshot.now)) (drop n (map (λ table. table.value) c.args.tables.now))) all
