-- That `read_next` ensures what it says.
use Rattle.std.proofs.Common.{subst}
use Rattle.mdx_reader.specs.PathSteps.{ReadsName}
use Rattle.mdx_reader.proofs.PathReading.{no_next}
use Rattle.mdx_reader.proofs.path.read_next.Goals as goal

pub returns-in_default : goal.returns-in_default
returns-in_default c next name rest d n = c.in_default.ensures next d

pub returns-in-Stops : goal.returns-in-Stops
returns-in-Stops c = no_next c.args.text.now c.args.from c.in-Some.next c.in-Stops.field-0 c.in-Some.ensures (subst (ReadsName c.args.text.now c.in-Some.next) c.in-Stops.is c.in_ok-name.ensures)
