-- What holds at each turn of `has_text_fields`.
use Rattle.std.proofs.Common.{◌≡◌, drop}
use Rattle.std.specs.List.{list_all}
use Rattle.std.specs.Str.{is_utf8}
use Rattle.csv_records.proofs.record.Record.has_text_fields.Given as goal

abbrev pub invariant-loop-i : goal.invariant-loop-i
invariant-loop-i l = list_all is_utf8 (drop l.i l.self) ≡ list_all is_utf8 l.self
