-- That a crossjoin of regions is one.
use Rattle.std.proofs.Common.{◌∙◌, ap}
use Rattle.query_meaning.specs.RegionMeaning.{all_crossed}
use Rattle.region_algebra.proofs.OwnFacts.{crossjoin_made}
use Rattle.region_algebra.proofs.crossjoins.crossjoin.Goals as goal

pub returns-clause-own : goal.returns-clause-own
returns-clause-own c = crossjoin_made _ c.args.parts.now c.in_ok-dims.dims c.in_ok-boxes.boxes c.requires.regions c.in_ok-dims.ensures.few c.in_ok-dims.ensures.dims (c.in_ok-boxes.ensures ∙ ap all_crossed c.in_ok-copy_regions.ensures)
