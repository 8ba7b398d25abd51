-- That `dim_again` ensures what it says, and what holds at each turn.
use Rattle.std.proofs.Common.{◌∙◌, get_or, sym}
use Rattle.std.proofs.lemmas.List.{get_or_default}
use Rattle.olap_meaning.specs.declared.regions.RegionDim.TheVariants as dim
use Rattle.region_algebra.proofs.DimFacts.{passes, repeats}
use Rattle.region_algebra.proofs.dims.dim_again.Goals as goal

pub returns-then-has_dim : goal.returns-then-has_dim
returns-then-has_dim c =
    let one = get_or c.args.dims.now c.loop-i.i dim.Measures in
    sym (c.loop-i.invariant ∙ repeats c.args.dims.now c.loop-i.i one c.loop-i-test.true (get_or_default c.args.dims.now c.loop-i.i dim.Measures one c.loop-i-test.true) (sym c.has_dim.ensures ∙ c.if-has_dim.true))

pub loop-i-preserved : goal.loop-i-preserved
loop-i-preserved c =
    let one = get_or c.args.dims.now c.loop-i.i dim.Measures in
    c.loop-i.invariant ∙ passes c.args.dims.now c.loop-i.i one c.loop-i-test.true (get_or_default c.args.dims.now c.loop-i.i dim.Measures one c.loop-i-test.true) (sym c.has_dim.ensures ∙ c.if-has_dim.false)
