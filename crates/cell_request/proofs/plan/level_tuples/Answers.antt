-- That `level_tuples` ensures `own`.
use Rattle.std.proofs.Common.{sym, subst}
use Rattle.std.proofs.lemmas.Result.{IfOk-weaker}
use Rattle.query_meaning.specs.OwnAxes.{AreTuplesOf}
use Rattle.cell_request.proofs.PlanFacts.{alone_own}
use Rattle.cell_request.proofs.plan.level_tuples.Goals as goal

pub returns-clause-own : goal.returns-clause-own
returns-clause-own c =
    IfOk-weaker c.alone.result _ _
    (λ tuples is. subst (AreTuplesOf c.args.catalog.now c.args.cube) (sym is) (alone_own c.args.catalog.now c.args.cube c.in_ok-members.members c.in_ok-members.ensures.own)) c.alone.ensures
