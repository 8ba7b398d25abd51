-- What holds at each turn of `behind_white`.
use Rattle.std.proofs.Common.{◌-◌, length}
use Rattle.mdx_reader.specs.PathSteps.{IsWhiteTo}
use Rattle.mdx_reader.proofs.path.behind_white.Given as goal

abbrev pub invariant-loop-at : goal.invariant-loop-at
invariant-loop-at l = IsWhiteTo l.text l.from l.at

abbrev pub decreases-loop-at : goal.decreases-loop-at
decreases-loop-at l = length l.text - l.at
