-- That `new` leaves a value that is whole.
use Rattle.std.proofs.Common.{rules}
use Rattle.csv_records.proofs.AsciiFacts.{ascii_strip}
use Rattle.csv_records.proofs.FieldFacts.{ascii_each}
use Rattle.csv_records.proofs.record.Rows.new.Goals as goal

pub invariant_of-result : goal.invariant_of-result
invariant_of-result c =
    (search rules, λ h. rw c.from_reader-reader.ensures.source (ascii_strip c.args.bytes.now (ascii_each c.args.bytes.now (c.is_ascii-is_ascii.ensures h))))
