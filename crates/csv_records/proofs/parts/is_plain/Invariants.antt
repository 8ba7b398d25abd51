-- What holds at each turn of `is_plain`.
use Rattle.std.proofs.Common.{ℕ, ◌<◌, get_or}
use Rattle.csv_records.specs.Parts.{IsPlain}
use Rattle.csv_records.proofs.parts.is_plain.Given as goal

abbrev pub invariant-loop-byte : goal.invariant-loop-byte
invariant-loop-byte l = (k : ℕ) → k < l.byte-index → l.greatest < 128 → IsPlain (get_or l.bytes k 0)
