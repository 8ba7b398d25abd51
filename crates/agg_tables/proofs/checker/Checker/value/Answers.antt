-- That `value` ensures what it says.
use Rattle.std.proofs.Common.{◌∙◌, List, ℤ, Option, Some, ap, sym}
use Rattle.olap_meaning.specs.declared.CellValue.{CellValue}
use Rattle.olap_meaning.specs.Values.{aggregate}
use Rattle.measure_folds.specs.Tallied.{Tallied}
use Rattle.fact_reader.specs.BodyRows.{rows_in}
use Rattle.agg_tables.proofs.GroupFacts.{computed_by}
use Rattle.agg_tables.proofs.checker.Checker.value.Goals as goal

pub returns-in-None : goal.returns-in-None
returns-in-None c =
    let a = c.self.inside in
    let values = c.args.values.now in
    let within = rw (← c.self.view_is) at c.requires in
    let told = computed_by a.file (rows_in a.snapshot.now) a.bodies.items c.fold_place.result c.args.j c.index.result.now values c.self.invariant within c.fold_place.ensures c.index.ensures in
    rw (← c.self.view_is) (ap (λ (numbers : List (Option ℤ)). Some (aggregate c.index.result.now.aggregator numbers)) (sym c.in-None.ensures.none) ∙ told)

pub returns-in-Some : goal.returns-in-Some
returns-in-Some c =
    let a = c.self.inside in
    let values = c.args.values.now in
    let within = rw (← c.self.view_is) at c.requires in
    let told = computed_by a.file (rows_in a.snapshot.now) a.bodies.items c.fold_place.result c.args.j c.index.result.now values c.self.invariant within c.fold_place.ensures c.index.ensures in
    rw (← c.self.view_is) (ap (λ (v : CellValue). Some v) (c.finish.ensures.value ∙ ap (λ (t : Tallied). aggregate t.aggregator t.values) c.in-Some.ensures.tally) ∙ told)
