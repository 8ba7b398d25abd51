-- That `region_of` and `regions_of` ensure what they say.
use Rattle.std.proofs.Common.{◌≡◌, ◌∙◌, ◌+◌, suc, ap, arith, sym, take}
use Rattle.std.proofs.lemmas.List.Elements.{All-push}
use Rattle.std.proofs.lemmas.Result.{err_from_is_err_and}
use Rattle.query_meaning.specs.RegionMeaning.{region_meant}
use Rattle.query_meaning.specs.RegionTree.{region_size, trees_size, trees_of}
use Rattle.query_meaning.specs.RegionTree as tree
use Rattle.query_meaning.specs.RegionView.{region_of}
use Rattle.region_algebra.specs.Regions.{IsBoundedOf}
use Rattle.region_algebra.proofs.FaultFacts.{fault_each}
use Rattle.olap_meaning.proofs.Each.{each_more}
use Rattle.region_algebra.proofs.Steps.{one_smaller, parts_each}
use Rattle.region_algebra.proofs.flushes.+regions.Goals as goal

pub region_of-regions_of-requires : goal.region_of-regions_of-requires
region_of-regions_of-requires t c =
    let size : region_size c.args.text.now ≡ suc (trees_size (trees_of c.as_slice-in-Parts.result.now)) = ap region_size (sym c.shape.ensures ∙ ap region_of c.in-Parts.is ∙ ap (tree.Parts c.in-Parts.joins) (sym c.as_slice-in-Parts.ensures)) in
    (omega (arith, size, c.decreases), c.requires)

pub regions_of-region_of-requires : goal.regions_of-region_of-requires
regions_of-region_of-requires t c = (omega (arith, one_smaller c.args.trees.now c.loop-one.one-index c.one-item.result c.loop-one-test.true c.one-item.is, c.decreases), c.requires)

pub regions_of-returns-in_err-region-clause-fault : goal.regions_of-returns-in_err-region-clause-fault
regions_of-returns-in_err-region-clause-fault t c =
    let p = err_from_is_err_and c.from_residual.result c.from_residual.ensures.1 in
    rw (p.1, p.2)
    (fault_each c.in_err-region.field-0.0 (region_meant c.args.catalog.now c.args.cube) _ c.args.trees.now c.loop-one.one-index c.one-item.result c.loop-one.regions (parts_each c.args.catalog.now c.args.cube c.args.trees.now) c.loop-one-test.true c.one-item.is
    (sym (parts_each c.args.catalog.now c.args.cube (take c.loop-one.one-index c.args.trees.now)) ∙ c.loop-one.invariant.0) c.in_err-region.ensures.fault)

pub regions_of-loop-one-preserved : goal.regions_of-loop-one-preserved
regions_of-loop-one-preserved t c =
    rw c.in_ok-push.ensures.ok (
      parts_each c.args.catalog.now c.args.cube (take (c.loop-one.one-index + 1) c.args.trees.now)
          ∙ each_more (region_meant c.args.catalog.now c.args.cube) c.args.trees.now c.loop-one.one-index c.one-item.result c.loop-one.regions c.in_ok-region.region c.loop-one-test.true c.one-item.is
          (sym (parts_each c.args.catalog.now c.args.cube (take c.loop-one.one-index c.args.trees.now)) ∙ c.loop-one.invariant.0) c.in_ok-region.ensures.ok,
      All-push (IsBoundedOf c.args.catalog.now c.args.cube) c.loop-one.regions c.in_ok-region.region c.loop-one.invariant.1 c.in_ok-region.ensures.own,
    )
