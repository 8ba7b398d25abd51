-- No bytes begin with two things.
use Rattle.input_lines.proofs.Fronts.{one_front}
use Rattle.input_lines.proofs.laws.beginnings_are_one.Goals as goal

pub returns : goal.returns
returns c = λ bytes one other a b. one_front a b
