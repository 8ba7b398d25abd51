-- A query that means axes is answered by a grid.
use Rattle.line_session.proofs.Answered.{queries_answered}
use Rattle.line_session.proofs.laws.queries_are_answered.Goals as goal

pub returns : goal.returns
returns g c = λ dealing handled argument query axes handles utf8 command writes means told. queries_answered _ dealing handled argument query axes handles utf8 command writes means told
