-- That `ask_flush` ensures `one`: the argument's one flush, or the one byte at which it stops, is asked for.
use Rattle.input_lines.proofs.Commands.{flush}
use Rattle.input_lines.proofs.Only.{only_stop, only_value}
use Rattle.input_lines.proofs.request.ask_flush.Goals as goal

pub returns-in-Ok-clause-one : goal.returns-in-Ok-clause-one
returns-in-Ok-clause-one c = only_value flush c.args.argument.now c.in-Ok.flush c.in-Ok.ensures.0 c.in-Ok.ensures.1

pub returns-in-Err-SyntaxAt-clause-one : goal.returns-in-Err-SyntaxAt-clause-one
returns-in-Err-SyntaxAt-clause-one c = only_stop flush c.args.argument.now c.in-Err-SyntaxAt.byte (rw c.in-Err-SyntaxAt.field-0-is at c.in-Err-SyntaxAt.ensures)
