-- That a fault of a range names members of the cube.
use Rattle.std.proofs.lemmas.Result.{err_from_is_err_and}
use Rattle.region_algebra.proofs.EndFacts.{path_names}
use Rattle.region_algebra.proofs.flushes.range_between.Goals as goal

pub returns-in_err-first-clause-members : goal.returns-in_err-first-clause-members
returns-in_err-first-clause-members c =
    let p = err_from_is_err_and c.from_residual.result c.from_residual.ensures.1 in
    rw (p.1, p.2) (path_names c.args.catalog.now c.args.cube c.args.first.now c.in_err-first.field-0.0 c.in_err-first.ensures.fault)
