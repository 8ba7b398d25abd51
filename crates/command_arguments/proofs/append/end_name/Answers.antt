-- That `end_name` ensures `steps` where the name ended.
use Rattle.command_arguments.proofs.Appends.{name_ended}
use Rattle.command_arguments.proofs.append.end_name.Goals as goal

pub returns-clause-steps : goal.returns-clause-steps
returns-clause-steps c = name_ended c.args.name c.args.c c.begin_file.result c.if-c-eq93.false c.if-is_empty.ensures c.begin_file.ensures.steps
