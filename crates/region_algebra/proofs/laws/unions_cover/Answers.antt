-- That a union covers what one of its parts does.
use Rattle.region_algebra.proofs.LawFacts.{union_covers}
use Rattle.region_algebra.proofs.laws.unions_cover.Goals as goal

pub returns : goal.returns
returns c = λ cube parts region cell. union_covers cell cube parts region
