-- That the reader's `finish` ensures `finishes` within the name.
use Rattle.command_arguments.proofs.InNames.{name_unended}
use Rattle.command_arguments.proofs.name.NameReaderForm.finish.Goals as goal

pub returns-in-InName-clause-finishes : goal.returns-in-InName-clause-finishes
returns-in-InName-clause-finishes c = λ at own. name_unended c.args.self c.in-InName.field-0 at own c.in-InName.is
