-- That a union of regions is one.
use Rattle.std.proofs.Common.{◌∙◌, ap, flat_map}
use Rattle.olap_meaning.specs.declared.regions.Region.{Region}
use Rattle.region_algebra.proofs.OwnFacts.{union_made}
use Rattle.region_algebra.proofs.unions.union.Goals as goal

pub returns-clause-own : goal.returns-clause-own
returns-clause-own c = union_made _ c.args.parts.now c.in_ok-dims.dims c.in_ok-boxes.boxes c.requires.regions c.in_ok-dims.ensures.same c.in_ok-dims.ensures.few c.in_ok-dims.ensures.dims (c.in_ok-boxes.ensures ∙ ap (flat_map (λ (part : Region). part.boxes)) c.in_ok-copy_regions.ensures)
