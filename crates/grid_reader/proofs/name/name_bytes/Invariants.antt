-- What holds at each turn of `name_bytes`.
use Rattle.std.proofs.Common.{length}
use Rattle.grid_reader.proofs.NameSteps.{NameLeft}
use Rattle.grid_reader.proofs.name.name_bytes.Given as goal

abbrev pub invariant-loop-byte : goal.invariant-loop-byte
invariant-loop-byte l = NameLeft l.text l.name.items l.rest

abbrev pub decreases-loop-byte : goal.decreases-loop-byte
decreases-loop-byte l = length l.rest
