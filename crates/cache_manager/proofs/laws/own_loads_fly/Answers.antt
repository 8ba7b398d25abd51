-- That `own_loads_fly` ensures what it says.
use Rattle.cache_manager.proofs.Own.{own_ends}
use Rattle.cache_manager.proofs.laws.own_loads_fly.Goals as goal

pub returns : goal.returns
returns c cache who j load legal own = let may = own_ends cache who j load legal own in (may.flies, may.own)
