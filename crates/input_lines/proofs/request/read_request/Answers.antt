-- That `read_request` ensures `request` where a line has a command with an argument, and `one`.
use Rattle.std.proofs.Common.{sym}
use Rattle.std.specs.Prelude.{codes}
use Rattle.input_lines.proofs.Arguments.{asked_by, only_by}
use Rattle.input_lines.proofs.Only.{only_blank}
use Rattle.input_lines.proofs.request.read_request.Goals as goal

pub returns-in-Some-argument_of-clause-request : goal.returns-in-Some-argument_of-clause-request
returns-in-Some-argument_of-clause-request c = asked_by (codes "MDX") c.in-Some-argument_of.argument.now c.in-Some.text.now c.args.line.now c.ask_query.result c.in-Some.ensures.0 c.in-Some.ensures.1 c.in-Some-argument_of.ensures.found c.ask_query.ensures.request

pub returns-in-Some-argument_of-clause-one : goal.returns-in-Some-argument_of-clause-one
returns-in-Some-argument_of-clause-one c = only_by (codes "MDX") c.in-Some-argument_of.argument.now c.in-Some.text.now c.args.line.now c.ask_query.result c.in-Some.ensures.0 c.in-Some.ensures.1 c.in-Some-argument_of.ensures.found c.ask_query.ensures.one

pub returns-then-is_blank-clause-one : goal.returns-then-is_blank-clause-one
returns-then-is_blank-clause-one c = only_blank c.args.line.now c.in-Some.ensures.0 (sym c.if-is_blank.ensures)
