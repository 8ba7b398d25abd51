-- That `awaited_is_by_position` ensures what it says.
use Rattle.olap_meaning.proofs.ByPosition.{awaited_is_by_position}
use Rattle.olap_meaning.proofs.laws.awaited_is_by_position.Goals as goal

pub returns : goal.returns
returns c = awaited_is_by_position
