-- That `spelled_number` ensures what it says.
use Rattle.std.proofs.Common.{◌∙◌}
use Rattle.command_words.proofs.NumberFacts.{parsed}
use Rattle.command_words.proofs.number.spelled_number.Goals as goal

pub returns : goal.returns
returns c = c.ok.ensures.value ∙ parsed c.parse.result c.args.text.now (cc) c.parse.ensures.value.0
