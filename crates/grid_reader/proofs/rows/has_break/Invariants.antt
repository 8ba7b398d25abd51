-- What holds at each turn of `has_break`.
use Rattle.std.proofs.Common.{◌≡◌, [], take}
use Rattle.query_meaning.specs.Shown.{breaks}
use Rattle.grid_reader.proofs.rows.has_break.Given as goal

abbrev pub invariant-loop-byte : goal.invariant-loop-byte
invariant-loop-byte l = breaks (take l.byte-index l.text) ≡ []
