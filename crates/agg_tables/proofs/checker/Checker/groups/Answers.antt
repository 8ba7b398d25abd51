-- That `groups` ensures what it says.
use Rattle.std.proofs.Common.{◌∙◌, List, ℕ, ℤ, Option, length, ap, arith}
use Rattle.std.proofs.lemmas.List.{length-map}
use Rattle.olap_meaning.proofs.Lists.{appearances_le}
use Rattle.segment_body.specs.BodyOf.{BodyOf, different_values}
use Rattle.fact_reader.proofs.BatchFacts.{different_texts}
use Rattle.agg_tables.specs.Places.{CheckerOf}
use Rattle.fact_reader.specs.BodyRows.{rows_in, values_in}
use Rattle.agg_tables.specs.Tables.{groups_over}
use Rattle.agg_tables.proofs.GroupFacts.{groups_of_body, has_first}
use Rattle.agg_tables.proofs.checker.Checker.groups.Goals as goal

pub returns-clause-count : goal.returns-clause-count
returns-clause-count c =
    let a = c.self.inside in
    let first = has_first a.file (rows_in a.snapshot.now) a.bodies.items c.self.invariant in
    c.groups.ensures.count
    ∙ ap (λ (b : BodyOf). length (different_values b.rows)) (c.index.ensures ∙ first.is c.index.result.now)
    ∙ ap length (groups_of_body a.file.catalog a.file.declared (rows_in a.snapshot.now) first.fold)
    ∙ ap (λ (v : CheckerOf). length (groups_over v.file.catalog v.file.declared v.rows)) c.self.view_is

pub returns-clause-limit : goal.returns-clause-limit
returns-clause-limit c =
    let b = c.index.result.now in
    let counted = c.groups.ensures.count ∙ ap length (different_texts b.rows) in
    let few = appearances_le (values_in b) in
    let rows = length-map b.rows (λ (row : List ℕ × Option ℤ). row.0) in
    omega (arith, counted, few, rows, c.groups.ensures.limit)
