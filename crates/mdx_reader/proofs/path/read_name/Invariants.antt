-- What holds at each turn of `read_name`.
use Rattle.std.proofs.Common.{◌-◌, length}
use Rattle.mdx_reader.proofs.NameTexts.{IsNameTo}
use Rattle.mdx_reader.proofs.path.read_name.Given as goal

abbrev pub invariant-loop-c : goal.invariant-loop-c
invariant-loop-c l = IsNameTo l.text l.from l.name l.at

abbrev pub decreases-loop-c : goal.decreases-loop-c
decreases-loop-c l = length l.text - l.at
