-- A look is answered by what is kept.
use Rattle.line_session.proofs.Answered.{looks_answered}
use Rattle.line_session.proofs.laws.looks_are_answered.Goals as goal

pub returns : goal.returns
returns g c = λ dealing handled handles utf8 show. looks_answered _ dealing handled handles utf8 show
