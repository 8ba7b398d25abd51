-- That the reader's `finish` ensures `finishes` within the cube's name.
use Rattle.command_arguments.proofs.Appends.{name_unended}
use Rattle.command_arguments.proofs.append.AppendReaderForm.finish.Goals as goal

pub returns-in-InName-clause-finishes : goal.returns-in-InName-clause-finishes
returns-in-InName-clause-finishes c = λ at q. name_unended c.args.self c.in-InName.field-0 at q c.in-InName.is
