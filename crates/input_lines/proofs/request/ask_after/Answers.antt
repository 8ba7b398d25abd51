-- That `ask_after` ensures `one`: the argument's one position, or the one byte at which it stops, is asked for.
use Rattle.input_lines.proofs.Commands.{after}
use Rattle.input_lines.proofs.Only.{only_stop, only_value}
use Rattle.input_lines.proofs.request.ask_after.Goals as goal

pub returns-in-Ok-clause-one : goal.returns-in-Ok-clause-one
returns-in-Ok-clause-one c = only_value after c.args.argument.now c.in-Ok.position c.in-Ok.ensures.0 c.in-Ok.ensures.1

pub returns-in-Err-StopsAt-clause-one : goal.returns-in-Err-StopsAt-clause-one
returns-in-Err-StopsAt-clause-one c = only_stop after c.args.argument.now c.in-Err-StopsAt.byte (rw c.in-Err-StopsAt.field-0-is at c.in-Err-StopsAt.ensures)
