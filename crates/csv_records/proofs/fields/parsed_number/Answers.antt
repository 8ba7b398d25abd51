-- That `parsed_number` ensures what it says.
use Rattle.std.proofs.Common.{◌∙◌}
use Rattle.csv_records.proofs.NumberFacts.{number_of_no_text, number_of_text}
use Rattle.csv_records.proofs.fields.parsed_number.Goals as goal

pub returns-in_default : goal.returns-in_default
returns-in_default c = number_of_no_text c.args.field.now c.in_default.ensures.cases.0

pub returns : goal.returns
returns c =
    c.ok.ensures.value ∙ number_of_text c.parse.result c.in-Ok.text.now c.args.field.now c.in-Ok.ensures.cases.0 (cc) c.parse.ensures.value.0
