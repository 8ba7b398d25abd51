-- What holds at each turn of `find`.
use Rattle.std.proofs.Common.{◌≡◌, drop, bytes_eq}
use Rattle.std.specs.List.{position_from}
use Rattle.olap_meaning.specs.Records.{column_place}
use Rattle.csv_records.proofs.record.Record.find.Given as goal

abbrev pub invariant-loop-i : goal.invariant-loop-i
invariant-loop-i l = position_from (bytes_eq l.name) l.i (drop l.i l.self) ≡ column_place l.name l.self
