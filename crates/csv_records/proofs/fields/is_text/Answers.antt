-- That `is_text` ensures what it says.
use Rattle.csv_records.proofs.NumberFacts.{text_yes, text_no}
use Rattle.csv_records.proofs.fields.is_text.Goals as goal

pub returns-in-Ok : goal.returns-in-Ok
returns-in-Ok c = text_yes c.args.field.now c.in-Ok.ensures.cases.1

pub returns-in-Err : goal.returns-in-Err
returns-in-Err c = text_no c.args.field.now c.in-Err.ensures.cases.0
