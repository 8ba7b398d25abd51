-- That `tuples_of` ensures what it says.
use Rattle.std.proofs.Common.{◌≡◌, ◌∙◌, ◌+◌, All, arith, ap, flat_map, max, subst, sym}
use Rattle.std.proofs.lemmas.List.Elements.{All-same}
use Rattle.std.proofs.lemmas.Result.{IfOk-weaker}
use Rattle.olap_meaning.specs.MemberOf.{IsMemberOf}
use Rattle.query_meaning.specs.OwnAxes.{AreTuplesOf}
use Rattle.cell_request.specs.Plans.{listed, IsPlanOf}
use Rattle.cell_request.proofs.PlanFacts.{joined_listed, own_joined, pairs_own}
use denote.Param.Weighed.{most}
use Rattle.cell_request.specs.declared.plan.Plan.TheViews.{sized-Joined}
use Rattle.cell_request.proofs.plan.Plan.TheLaws.{the_size}
use Rattle.cell_request.proofs.plan.+listing.Goals as goal

pub tuples_of-joined-requires : goal.tuples_of-joined-requires
tuples_of-joined-requires t c =
    let e : the_size c.args.plan.now ≡ max (most the_size c.in-Joined.plans.items) 0 + 1 = ap the_size c.in-Joined.is ∙ sized-Joined c.in-Joined.plans in
    (rw c.as_slice-in-Joined.ensures.value (omega (arith, e, c.decreases)), (c.requires.known, All-same (IsPlanOf c.args.catalog.now c.args.cube) _ _ c.as_slice-in-Joined.ensures.value (own_joined c.args.catalog.now c.args.cube c.in-Joined.plans (subst (IsPlanOf c.args.catalog.now c.args.cube) c.in-Joined.is c.requires.own))))

pub tuples_of-returns-in-Children-clause-own : goal.tuples_of-returns-in-Children-clause-own
tuples_of-returns-in-Children-clause-own t c = IfOk-weaker c.child_tuples.result _ _ (λ tuples own. own c.args.cube) c.child_tuples.ensures.own

pub tuples_of-returns-in_ok-seconds-in-Cross-clause-own : goal.tuples_of-returns-in_ok-seconds-in-Cross-clause-own
tuples_of-returns-in_ok-seconds-in-Cross-clause-own t c =
    let P = All (IsMemberOf c.args.catalog.now c.args.cube) in
    IfOk-weaker c.paired.result _ _
    (λ tuples is. subst (AreTuplesOf c.args.catalog.now c.args.cube) (sym is)
    (pairs_own c.args.catalog.now c.args.cube c.as_slice-in-Cross.result.now c.as_slice-in-Cross-2.result.now (All-same P _ _ c.as_slice-in-Cross.ensures c.in_ok-firsts-in-Cross.ensures.own) (All-same P _ _ c.as_slice-in-Cross-2.ensures c.in_ok-seconds-in-Cross.ensures.own))) c.paired.ensures

pub tuples_of-returns-in-Joined-clause-listed : goal.tuples_of-returns-in-Joined-clause-listed
tuples_of-returns-in-Joined-clause-listed t c =
    IfOk-weaker c.joined.result _ _
    (λ tuples is.
    is
    ∙ ap (flat_map (listed c.args.catalog.now c.args.cube)) c.as_slice-in-Joined.ensures.value
    ∙ sym (joined_listed c.args.catalog.now c.args.cube c.in-Joined.plans)
    ∙ ap (listed c.args.catalog.now c.args.cube) (sym c.in-Joined.is)) c.joined.ensures.listed
