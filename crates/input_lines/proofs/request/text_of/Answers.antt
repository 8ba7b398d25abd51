-- That `text_of` ensures what it says.
use Rattle.input_lines.proofs.Words.{text_no, text_yes}
use Rattle.input_lines.proofs.request.text_of.Goals as goal

pub returns-in-Ok : goal.returns-in-Ok
returns-in-Ok c = (text_yes c.args.line.now c.in-Ok.ensures.cases.1, c.in-Ok.ensures.cases.0)

pub returns-in-Err : goal.returns-in-Err
returns-in-Err c = text_no c.args.line.now c.in-Err.ensures.cases.0
