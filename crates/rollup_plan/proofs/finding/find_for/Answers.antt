use Rattle.std.proofs.Common.{◌≡◌, ◌∙◌, Option, ap, is_some, sym}
use Rattle.std.specs.Prelude.{IfSome}
use Rattle.std.proofs.lemmas.Option.{IfSome_then}
use Rattle.std.proofs.lemmas.Result.{IfOk-weaker}
use Rattle.olap_meaning.specs.Rolled.{can_roll, value_count}
use Rattle.rollup_plan.specs.declared.plan.Plan.{Plan}
use Rattle.rollup_plan.specs.Picks.{IsPicked, bare, can_begin_some, lent}
use Rattle.rollup_plan.specs.Plans.{IsPlanned, offers_at}
use Rattle.rollup_plan.proofs.Bare.{candidates_bare, offers_bare, planned_bare}
use Rattle.rollup_plan.proofs.PlanFacts.{candidates_cover, picked_planned, roll_same}
use Rattle.rollup_plan.proofs.finding.find_for.Goals as goal

pub plan_of-requires : goal.plan_of-requires
plan_of-requires g c =
    rw c.as_slice.ensures.value (candidates_cover (bare (g.S.Shelf.loads c.args.shelf.now)) c.args.candidates.now (lent c.in_ok-kept.kept.items) c.in_ok-kept.ensures c.args.cell.now (candidates_bare (g.S.Shelf.loads c.args.shelf.now) c.args.cell.now c.args.candidates.now c.requires))

pub returns-clause-found : goal.returns-clause-found
returns-clause-found g c =
    let loads = g.S.Shelf.loads c.args.shelf.now in
    let size = value_count c.args.catalog.now in
    let cell = c.args.cell.now in
    let up = sym c.is_additive.ensures ∙ c.if-not-is_additive.false in
    IfOk-weaker c.plan_of.result (λ (found : Option Plan). is_some found ≡ can_begin_some size cell (lent c.in_ok-kept.kept.items)) (λ (found : Option Plan). is_some found ≡ can_roll c.args.aggregator size cell (offers_at loads c.args.candidates.now))
    (λ found told. told ∙ roll_same (bare loads) c.args.candidates.now (lent c.in_ok-kept.kept.items) c.in_ok-kept.ensures c.args.aggregator size cell up ∙ ap (can_roll c.args.aggregator size cell) (offers_bare loads c.args.candidates.now)) (rw c.as_slice.ensures.value at c.plan_of.ensures.found)

pub returns-clause-planned : goal.returns-clause-planned
returns-clause-planned g c =
    let loads = g.S.Shelf.loads c.args.shelf.now in
    let size = value_count c.args.catalog.now in
    let cell = c.args.cell.now in
    let kept = lent c.in_ok-kept.kept.items in
    let up = sym c.is_additive.ensures ∙ c.if-not-is_additive.false in
    let covering = candidates_cover (bare loads) c.args.candidates.now kept c.in_ok-kept.ensures cell (candidates_bare loads cell c.args.candidates.now c.requires) in
    IfOk-weaker c.plan_of.result (λ (found : Option Plan). IfSome found (IsPicked size cell kept)) (λ (found : Option Plan). IfSome found (IsPlanned c.args.aggregator size cell loads c.args.candidates.now))
    (λ found told. IfSome_then found told (λ plan picked. planned_bare loads c.args.aggregator size cell c.args.candidates.now plan (picked_planned (bare loads) c.args.candidates.now kept c.in_ok-kept.ensures c.args.aggregator size cell plan up covering picked))) (rw c.as_slice.ensures.value at c.plan_of.ensures.plan)
