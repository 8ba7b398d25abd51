-- What holds at each turn of `bare`.
use Rattle.std.proofs.Common.{◌≡◌, take}
use Rattle.query_meaning.specs.Shown.{bare}
use Rattle.shown_values.proofs.reading.bare.Given as goal

abbrev pub invariant-loop-byte : goal.invariant-loop-byte
invariant-loop-byte l = l.kept.items ≡ bare (take l.byte-index l.text)
