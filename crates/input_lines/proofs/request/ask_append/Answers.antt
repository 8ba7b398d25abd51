-- That `ask_append` ensures `one`: the argument's one append, or the one byte at which it stops, is asked for.
use Rattle.input_lines.proofs.Commands.{append}
use Rattle.input_lines.proofs.Only.{only_stop, only_value}
use Rattle.input_lines.proofs.request.ask_append.Goals as goal

pub returns-in-Ok-clause-one : goal.returns-in-Ok-clause-one
returns-in-Ok-clause-one c = only_value append c.args.argument.now c.in-Ok.append c.in-Ok.ensures.0 c.in-Ok.ensures.1

pub returns-in-Err-StopsAt-clause-one : goal.returns-in-Err-StopsAt-clause-one
returns-in-Err-StopsAt-clause-one c = only_stop append c.args.argument.now c.in-Err-StopsAt.byte (rw c.in-Err-StopsAt.field-0-is at c.in-Err-StopsAt.ensures)
