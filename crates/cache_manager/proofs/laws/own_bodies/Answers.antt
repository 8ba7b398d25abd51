-- That `own_bodies` ensures what it says.
use Rattle.cache_manager.proofs.JobFacts.{own_body}
use Rattle.cache_manager.proofs.laws.own_bodies.Goals as goal

pub returns : goal.returns
returns c = own_body
