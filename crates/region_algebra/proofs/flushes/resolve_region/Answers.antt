-- That `resolve_region` names the cube that is unknown.
use Rattle.std.proofs.Common.{◌∙◌, ap, sym}
use Rattle.olap_meaning.specs.Catalog.{find_cube}
use Rattle.region_algebra.proofs.FaultFacts.{cube_fault, no_cube}
use Rattle.region_algebra.proofs.flushes.resolve_region.Goals as goal

pub returns-in_default-clause-fault : goal.returns-in_default-clause-fault
returns-in_default-clause-fault c =
    let catalog = c.args.catalog.now in
    let text = c.args.text.now in
    cube_fault c.unknown_cube.result text.cube _ c.unknown_cube.ensures
    (no_cube catalog text (ap (find_cube catalog) (sym c.as_str.ensures) ∙ sym c.find_cube.ensures.found ∙ c.in_default.is))
