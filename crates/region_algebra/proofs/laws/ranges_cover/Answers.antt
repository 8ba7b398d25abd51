-- That a range covers what its members do.
use Rattle.region_algebra.proofs.LawFacts.{range_covers}
use Rattle.region_algebra.proofs.laws.ranges_cover.Goals as goal

pub returns : goal.returns
returns c = λ catalog cube first last region cell. range_covers cell catalog cube first last region
