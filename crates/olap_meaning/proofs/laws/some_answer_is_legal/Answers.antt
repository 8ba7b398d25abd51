-- That `some_answer_is_legal` ensures what it says.
use Rattle.olap_meaning.proofs.Legality.{some_answer_is_legal}
use Rattle.olap_meaning.proofs.laws.some_answer_is_legal.Goals as goal

pub returns : goal.returns
returns c = some_answer_is_legal
