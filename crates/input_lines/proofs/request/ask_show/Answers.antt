-- That `ask_show` ensures `request` where the argument is white, and `one`: what is kept, or the one byte at which it stops.
use Rattle.std.specs.Prelude.{codes}
use Rattle.input_lines.proofs.Arguments.{is_white_argument}
use Rattle.input_lines.proofs.Commands.{cache}
use Rattle.input_lines.proofs.Only.{only_stop, only_value}
use Rattle.input_lines.proofs.request.ask_show.Goals as goal

pub returns-in-Ok-clause-request : goal.returns-in-Ok-clause-request
returns-in-Ok-clause-request c = λ line utf8 is. (utf8, is_white_argument (codes "CACHE") line c.args.argument.now c.in-Ok.field-0 is c.in-Ok.ensures.0)

pub returns-in-Ok-clause-one : goal.returns-in-Ok-clause-one
returns-in-Ok-clause-one c = only_value cache c.args.argument.now c.in-Ok.field-0 c.in-Ok.ensures.0 c.in-Ok.ensures.1

pub returns-in-Err-StopsAt-clause-one : goal.returns-in-Err-StopsAt-clause-one
returns-in-Err-StopsAt-clause-one c = only_stop cache c.args.argument.now c.in-Err-StopsAt.byte (rw c.in-Err-StopsAt.field-0-is at c.in-Err-StopsAt.ensures)
