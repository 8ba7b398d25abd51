-- That `measures` ensures what it says, stays within its numbers and keeps what holds at each turn.
use Rattle.std.proofs.Common.{◌≡◌, ◌∙◌, ◌++◌, ◌∷◌, [], true, ap, sym, length, arith}
use Rattle.std.specs.List.{list_all}
use Rattle.std.proofs.lemmas.List.FromFn.{map-range_with_len_more}
use Rattle.olap_meaning.specs.declared.tables.Catalog.{Catalog}
use Rattle.olap_meaning.specs.declared.cells.Member.TheVariants as member
use Rattle.olap_catalog.specs.Parts.{has_few_measures}
use Rattle.olap_catalog.proofs.TreeFacts.{measures_by_number, measures_few}
use Rattle.olap_catalog.proofs.catalog.Catalog.measures.Goals as goal

pub overflow_cast-measure : goal.overflow_cast-measure
overflow_cast-measure c =
    let few : list_all has_few_measures c.args.self.now.cubes ≡ true = sym (ap (λ (k : Catalog). list_all has_few_measures k.cubes) c.self.view_is) ∙ c.self.invariant.few_measures in
    let small = measures_few c.args.self.now c.args.cube c.cube.result.now c.cube.ensures few in
    let long = ap length c.as_slice-measures.ensures in
    omega (arith, small, long, c.loop-measure-test.true)

pub loop-measure-preserved : goal.loop-measure-preserved
loop-measure-preserved c =
    c.in_ok-push.ensures.ok ∙ ap (λ ms. ms ++ member.Measure c.loop-measure.measure ∷ []) c.loop-measure.invariant
    ∙ sym (map-range_with_len_more member.Measure 0 c.loop-measure.measure c.loop-measure.measure (omega arith))

pub returns : goal.returns
returns c =
    let long = ap length c.as_slice-measures.ensures in
    c.loop-measure.invariant ∙ measures_by_number c.args.self.now c.args.cube c.loop-measure.measure c.cube.result.now c.cube.ensures (omega (arith, long, c.loop-measure-test.false, c.loop-measure.auto))
