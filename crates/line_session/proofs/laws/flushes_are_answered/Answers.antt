-- A flush is answered by what it means.
use Rattle.line_session.proofs.Answered.{flushes_answered}
use Rattle.line_session.proofs.laws.flushes_are_answered.Goals as goal

pub returns : goal.returns
returns g c = λ dealing handled argument text handles utf8 command writes. flushes_answered _ dealing handled argument text handles utf8 command writes
