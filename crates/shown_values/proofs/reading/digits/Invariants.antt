-- What holds at each turn of `digits`.
use Rattle.std.proofs.Common.{◌≡◌, take, filter, string_bytes}
use Rattle.std.specs.Char.{is_ascii_digit}
use Rattle.shown_values.proofs.reading.digits.Given as goal

abbrev pub invariant-loop-byte : goal.invariant-loop-byte
invariant-loop-byte l = string_bytes l.digits ≡ filter is_ascii_digit (take l.byte-index l.text)
