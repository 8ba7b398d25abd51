-- That `wide_number` ensures what it says.
use Rattle.std.proofs.Common.{◌∙◌, refl}
use Rattle.agg_tables.proofs.NumberFacts.{wide_of_text}
use Rattle.agg_tables.proofs.fields.wide_number.Goals as goal

pub returns : goal.returns
returns c = c.ok.ensures.value ∙ wide_of_text c.parse.result c.args.field.now c.args.field.now refl (cc) c.parse.ensures.value.0
