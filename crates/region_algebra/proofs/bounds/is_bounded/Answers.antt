-- That `is_bounded` tests what it says.
use Rattle.region_algebra.proofs.OwnFacts.{bounded_test}
use Rattle.region_algebra.proofs.bounds.is_bounded.Goals as goal

pub returns : goal.returns
returns c = bounded_test c.args.region.now c.passes.result c.passes.ensures
