-- That `ask_query` ensures `one`: the argument's one query, or the one byte at which it stops, is asked for.
use Rattle.input_lines.proofs.Commands.{mdx}
use Rattle.input_lines.proofs.Only.{only_stop, only_value}
use Rattle.input_lines.proofs.request.ask_query.Goals as goal

pub returns-in-Ok-clause-one : goal.returns-in-Ok-clause-one
returns-in-Ok-clause-one c = only_value mdx c.args.argument.now c.in-Ok.query c.in-Ok.ensures.0 c.in-Ok.ensures.1

pub returns-in-Err-SyntaxAt-clause-one : goal.returns-in-Err-SyntaxAt-clause-one
returns-in-Err-SyntaxAt-clause-one c = only_stop mdx c.args.argument.now c.in-Err-SyntaxAt.byte (rw c.in-Err-SyntaxAt.field-0-is at c.in-Err-SyntaxAt.ensures)
