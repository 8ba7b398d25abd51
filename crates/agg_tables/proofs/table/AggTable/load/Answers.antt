-- That `load` ensures what it says.
use Rattle.std.proofs.Common.{◌∙◌, ℕ, List, drop, take, length, length-append, ap, arith}
use Rattle.olap_meaning.specs.declared.tables.Row.{Row}
use Rattle.fact_reader.specs.BodyRows.{rows_in}
use Rattle.fact_reader.proofs.BatchFacts.{length-rows_in}
use Rattle.agg_tables.proofs.LoadFacts.{cost_split, few_rows, not_newer, rows_split, table_holds}
use Rattle.agg_tables.proofs.table.AggTable.load.Goals as goal

pub add_later-requires-clause-first : goal.add_later-requires-clause-first
add_later-requires-clause-first g c = omega (arith, c.first_later-first.ensures, not_newer c.args.catalog.now c.args.snapshot.now c.args.self.now c.requires.own)

pub add_later-requires-clause-room : goal.add_later-requires-clause-room
add_later-requires-clause-room g c =
    let is = c.in_ok-body.ensures.body in
    let few = few_rows c.args.catalog.now c.args.header.now c.args.snapshot.now c.args.self.now c.body_for-wide.result.now c.in_ok-body.body c.tables_are_placed.ensures c.rows_are_valued.ensures c.requires.fit c.requires.own c.requires.usable c.body_for-wide.ensures.own c.body_for-wide.ensures.serves is in
    let split = ap (λ (rows : List Row). length rows) (rows_split c.args.snapshot.now c.args.self.now.version) ∙ length-append (rows_in (take c.args.self.now.version c.args.snapshot.now)) (rows_in (drop c.args.self.now.version c.args.snapshot.now)) in
    let behind = ap (λ (n : ℕ). length (rows_in (drop n c.args.snapshot.now))) c.first_later-first.ensures in
    omega (arith, few, split, behind, length-rows_in c.args.snapshot.now, c.rows-rows.ensures.bound)

pub returns-in_err-add_later-clause-at_most : goal.returns-in_err-add_later-clause-at_most
returns-in_err-add_later-clause-at_most g c =
    let behind = ap (λ (n : ℕ). length (rows_in (drop n c.args.snapshot.now))) c.first_later-first.ensures in
    let groups = ap (λ (values : List (List ℕ)). length values) c.body_for-wide.ensures.groups in
    omega (arith, c.add_later.ensures.at_most, c.in_ok-body.ensures.cost, groups, behind, cost_split c.args.catalog.now c.args.snapshot.now c.args.self.now c.requires.own)

pub returns-clause-body : goal.returns-clause-body
returns-clause-body g c =
    let is = c.in_ok-body.ensures.body in
    let holds = table_holds c.args.catalog.now c.args.header.now c.args.snapshot.now c.args.self.now c.body_for-wide.result.now c.in_ok-body.body c.tables_are_placed.ensures c.rows_are_valued.ensures c.requires.fit c.requires.own c.requires.usable c.body_for-wide.ensures.own c.body_for-wide.ensures.serves is in
    let added = rw c.first_later-first.ensures at c.in_ok-add_later.ensures.ok in
    rw added holds

pub returns-clause-cost : goal.returns-clause-cost
returns-clause-cost g c =
    let behind = ap (λ (n : ℕ). length (rows_in (drop n c.args.snapshot.now))) c.first_later-first.ensures in
    let groups = ap (λ (values : List (List ℕ)). length values) c.body_for-wide.ensures.groups in
    omega (arith, c.in_ok-add_later.ensures.cost, c.in_ok-body.ensures.cost, groups, behind, cost_split c.args.catalog.now c.args.snapshot.now c.args.self.now c.requires.own)

pub returns-clause-at_most : goal.returns-clause-at_most
returns-clause-at_most g c =
    let behind = ap (λ (n : ℕ). length (rows_in (drop n c.args.snapshot.now))) c.first_later-first.ensures in
    let groups = ap (λ (values : List (List ℕ)). length values) c.body_for-wide.ensures.groups in
    omega (arith, c.add_later.ensures.at_most, c.in_ok-body.ensures.cost, groups, behind, cost_split c.args.catalog.now c.args.snapshot.now c.args.self.now c.requires.own)
