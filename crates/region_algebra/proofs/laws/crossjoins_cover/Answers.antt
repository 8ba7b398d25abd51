-- That a crossjoin covers what all its parts do.
use Rattle.region_algebra.proofs.LawFacts.{crossjoin_covers}
use Rattle.region_algebra.proofs.laws.crossjoins_cover.Goals as goal

pub returns : goal.returns
returns c = λ cube parts region cell. crossjoin_covers cell cube parts region
