-- That the reader's `step` ensures `steps` within the name.
use Rattle.command_arguments.proofs.InNames.{name_closes, name_goes}
use Rattle.command_arguments.proofs.name.NameReaderForm.step.Goals as goal

pub returns-then-c-eq93-clause-steps : goal.returns-then-c-eq93-clause-steps
returns-then-c-eq93-clause-steps c = name_closes c.args.self c.in-InName.name c.args._at c.args.c c.in-InName.is c.if-c-eq93.true

pub returns-in_ok-push-in-InName-clause-steps : goal.returns-in_ok-push-in-InName-clause-steps
returns-in_ok-push-in-InName-clause-steps c = name_goes c.args.self c.in-InName.name c.push.new.self c.args._at c.args.c c.in-InName.is c.if-c-eq93.false c.in_ok-push-in-InName.ensures.ok
