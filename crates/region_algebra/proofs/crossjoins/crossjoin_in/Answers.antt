-- That a crossjoin of regions is one.
use Rattle.std.proofs.Common.{◌∙◌, ap, sym}
use Rattle.query_meaning.specs.RegionMeaning.{all_dims, box_counts, many_crossed}
use Rattle.region_algebra.proofs.OwnFacts.{crossjoin_made}
use Rattle.region_algebra.proofs.crossjoins.crossjoin_in.Goals as goal

pub returns-clause-own : goal.returns-clause-own
returns-clause-own c =
    crossjoin_made c.args.cube c.args.parts c.in_ok-dims.dims c.in_ok-boxes.boxes c.requires
    (ap (λ ps. many_crossed 1 (box_counts ps)) (sym c.as_slice.ensures) ∙ c.in_ok-dims.ensures.few)
    (c.in_ok-dims.ensures.dims ∙ ap all_dims c.as_slice.ensures) c.in_ok-boxes.ensures
