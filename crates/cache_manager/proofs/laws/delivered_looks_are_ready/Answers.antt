-- That `delivered_looks_are_ready` ensures what it says.
use Rattle.cache_manager.proofs.Ready.{delivered_looks_are_ready}
use Rattle.cache_manager.proofs.laws.delivered_looks_are_ready.Goals as goal

pub returns : goal.returns
returns c = delivered_looks_are_ready
