use Rattle.std.proofs.Common.{◌∙◌, sym}
use Rattle.rollup_plan.proofs.ServeFacts.{serves_alike}
use Rattle.rollup_plan.proofs.plan.Plan.serves.Goals as goal

pub returns-clause-rolls : goal.returns-clause-rolls
returns-clause-rolls g c = λ is. serves_alike (g.S.Shelf.loads c.args.shelf.now) c.args.self.now c.args.cell.now (rw c.as_slice.ensures at (sym c.are_served.ensures ∙ is))
