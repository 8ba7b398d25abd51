-- That `get` ensures what it says.
use Rattle.std.proofs.Common.{◌∙◌}
use Rattle.csv.specs.Records.{fields_of}
use Rattle.csv_records.proofs.FieldFacts.{field_at-slice_get}
use Rattle.csv_records.proofs.record.Record.get.Goals as goal

pub returns : goal.returns
returns c = rw (← c.self.view_is) (c.get.ensures.value ∙ field_at-slice_get (fields_of c.self.inside.row) c.args.i)
