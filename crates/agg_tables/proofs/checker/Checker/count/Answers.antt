-- That `count` ensures what it says.
use Rattle.std.proofs.Common.{◌∙◌, length, ap, sym}
use Rattle.std.proofs.lemmas.List.{length-map}
use Rattle.segment_body.specs.BodyOf.{BodyOf, numbers_at}
use Rattle.measure_folds.specs.Tallied.{Tallied}
use Rattle.agg_tables.specs.Places.{CheckerOf}
use Rattle.agg_tables.specs.Files.{group_rows}
use Rattle.agg_tables.specs.Tables.{table_header}
use Rattle.fact_reader.specs.BodyRows.{row_number, rows_in}
use Rattle.agg_tables.proofs.GroupFacts.{has_first, numbers_of_group}
use Rattle.agg_tables.proofs.checker.Checker.count.Goals as goal

pub returns-in-None : goal.returns-in-None
returns-in-None c =
    let a = c.self.inside in
    let values = c.args.values.now in
    let first = has_first a.file (rows_in a.snapshot.now) a.bodies.items c.self.invariant in
    let body = c.index.ensures ∙ first.is c.index.result.now in
    let group = group_rows a.file.catalog a.file.declared (rows_in a.snapshot.now) values in
    sym (ap length c.in-None.ensures.none)
    ∙ ap (λ (b : BodyOf). length (numbers_at b.rows values)) body
    ∙ ap length (numbers_of_group a.file.catalog a.file.declared first.fold.measure values (rows_in a.snapshot.now))
    ∙ length-map group (row_number a.file.catalog (table_header a.file.catalog a.file.declared first.fold.measure))
    ∙ ap (λ (v : CheckerOf). length (group_rows v.file.catalog v.file.declared v.rows values)) c.self.view_is

pub returns-in-Some : goal.returns-in-Some
returns-in-Some c =
    let a = c.self.inside in
    let values = c.args.values.now in
    let first = has_first a.file (rows_in a.snapshot.now) a.bodies.items c.self.invariant in
    let body = c.index.ensures ∙ first.is c.index.result.now in
    let group = group_rows a.file.catalog a.file.declared (rows_in a.snapshot.now) values in
    c.rows.ensures
    ∙ ap (λ (t : Tallied). length t.values) c.in-Some.ensures.tally
    ∙ ap (λ (b : BodyOf). length (numbers_at b.rows values)) body
    ∙ ap length (numbers_of_group a.file.catalog a.file.declared first.fold.measure values (rows_in a.snapshot.now))
    ∙ length-map group (row_number a.file.catalog (table_header a.file.catalog a.file.declared first.fold.measure))
    ∙ ap (λ (v : CheckerOf). length (group_rows v.file.catalog v.file.declared v.rows values)) c.self.view_is
