-- What holds at each turn of `read_path`.
use Rattle.std.proofs.Common.{◌-◌, length}
use Rattle.mdx_reader.proofs.PathReading.{IsPathTo}
use Rattle.mdx_reader.proofs.path.read_path.Given as goal

abbrev pub invariant-loop-path : goal.invariant-loop-path
invariant-loop-path l = IsPathTo l.text l.from l.path l.place

abbrev pub decreases-loop-path : goal.decreases-loop-path
decreases-loop-path l = length l.text - l.place
