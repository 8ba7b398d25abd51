-- That `next` ensures `taken` and `end` and leaves a value that is whole.
use Rattle.std.proofs.Common.{sym, ◌∙◌, rules}
use Rattle.csv.specs.Records.{fields_of}
use Rattle.csv_records.proofs.AsciiFacts.{ascii_kept}
use Rattle.csv_records.proofs.LeftFacts.{left-read}
use Rattle.csv_records.proofs.record.Rows.next.Goals as goal

pub returns-in-Ok-clause-taken : goal.returns-in-Ok-clause-taken
returns-in-Ok-clause-taken c =
    rw (← c.self.view_is) (left-read c.self.inside.reader c.read_byte_record.new.self c.in-Ok.found (fields_of c.read_byte_record.new.row) c.self.invariant.0
    (λ dead. let e = sym c.in-Ok.is ∙ c.read_byte_record.ensures.failed dead in cc e) c.in-Ok.ensures.reads).0

pub returns-in-Ok-clause-end : goal.returns-in-Ok-clause-end
returns-in-Ok-clause-end c =
    rw (← c.self.view_is) (left-read c.self.inside.reader c.read_byte_record.new.self c.in-Ok.found (fields_of c.read_byte_record.new.row) c.self.invariant.0
    (λ dead. let e = sym c.in-Ok.is ∙ c.read_byte_record.ensures.failed dead in cc e) c.in-Ok.ensures.reads).1

pub invariant_of-self : goal.invariant_of-self
invariant_of-self c = (
  search rules,
  λ h. (ascii_kept c.self.inside.reader c.read_byte_record.new.self c.self.inside.is_ascii c.in-Ok.found (fields_of c.read_byte_record.new.row) c.self.invariant.0 c.self.invariant.1
      (λ dead. let e = sym c.in-Ok.is ∙ c.read_byte_record.ensures.failed dead in cc e) c.in-Ok.ensures.reads h).1,
)

pub invariant_of-row : goal.invariant_of-row
invariant_of-row c =
    λ h. (ascii_kept c.self.inside.reader c.read_byte_record.new.self c.self.inside.is_ascii c.in-Ok.found (fields_of c.read_byte_record.new.row) c.self.invariant.0 c.self.invariant.1
    (λ dead. let e = sym c.in-Ok.is ∙ c.read_byte_record.ensures.failed dead in cc e) c.in-Ok.ensures.reads h).0
