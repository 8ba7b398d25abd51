-- What holds at each turn of `short_number`.
use Rattle.std.proofs.Common.{◌≡◌, take}
use Rattle.std.specs.Str.Parse.{AllDigits, digits_value}
use Rattle.csv_records.proofs.fields.short_number.Given as goal

abbrev pub invariant-loop-byte : goal.invariant-loop-byte
invariant-loop-byte l = record {
  digits : AllDigits 10 (take l.byte-index l.field);
  spelled : l.value ≡ digits_value 10 (take l.byte-index l.field);
}
