-- An AGG is answered by the table of its name.
use Rattle.line_session.proofs.Answered.{aggs_answered}
use Rattle.line_session.proofs.laws.aggs_are_answered.Goals as goal

pub returns : goal.returns
returns g c = λ dealing handled argument name handles utf8 command writes. aggs_answered _ dealing handled argument name handles utf8 command writes
