-- That `after_marked_name` ensures what it says.
use Rattle.grid_reader.proofs.TitleSteps.{marked_found}
use Rattle.grid_reader.proofs.title.after_marked_name.Goals as goal

pub returns-in-Some-clause-only : goal.returns-in-Some-clause-only
returns-in-Some-clause-only c = marked_found c.args.text.now c.in-Some.rest.now c.in-Some.ensures.0 c.after_name.result c.in-Some.ensures.1 c.after_name.ensures.only
