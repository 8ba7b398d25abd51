-- That `some_roll_exactly` ensures what it says.
use Rattle.olap_meaning.proofs.Rolling.{some_roll_exactly}
use Rattle.olap_meaning.proofs.laws.some_roll_exactly.Goals as goal

pub returns : goal.returns
returns c = some_roll_exactly
