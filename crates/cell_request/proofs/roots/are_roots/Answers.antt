-- That `are_roots` ensures what it says where the roots are not as many.
use Rattle.cell_request.proofs.RootFacts.{uneven}
use Rattle.cell_request.proofs.roots.are_roots.Goals as goal

pub returns-then-roots-others : goal.returns-then-roots-others
returns-then-roots-others c = uneven c.args.roots.now c.args.others.now c.if-roots-others.true
