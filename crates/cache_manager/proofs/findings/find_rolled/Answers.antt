-- What was found is so, and the rollups go on.
use Rattle.std.proofs.Common.{◌∙◌, sym, ap, subst, All, Some, is_some}
use Rattle.std.proofs.lemmas.List.Elements.{All-push}
use Rattle.cache_manager.specs.Rollups.{IsRollup}
use Rattle.cache_manager.proofs.Finding.{known_measure}
use Rattle.cache_manager.proofs.Firsts.{begun_first, begun_firsts, candidates_served, joined_firsts, serving_told}
use Rattle.cache_manager.proofs.Rolling.{begun_at, begun_is, begun_on, joined_are, joined_at, joined_on}
use Rattle.cache_manager.proofs.Sourcing.{candidates_known, none_found, plan_found}
use Rattle.cache_manager.proofs.findings.find_rolled.Goals as goal

pub returns-in-Some-clause-rollups : goal.returns-in-Some-clause-rollups
returns-in-Some-clause-rollups c =
    let told = serving_told c.args.shelf.now.loads c.args.rollups.now.items c.args.cell.now c.in-Some.rollup (sym (rw c.as_slice.ensures.value at c.serving.ensures) ∙ c.in-Some.is) in
    joined_are c.args.rollups.now.items c.join.new.rollups.items c.in-Some.rollup c.in_ok-place.place c.args.cell.now c.in_ok-place.ensures c.args.history.now.setting.catalog c.args.history.now.entries c.args.shelf.now.loads c.requires.kept c.requires.known c.requires.unserved
    told.0 told.1 told.2 c.requires.rollups

pub returns-in-Some-clause-firsts : goal.returns-in-Some-clause-firsts
returns-in-Some-clause-firsts c = joined_firsts c.args.history.now.setting.catalog c.args.history.now.entries c.args.shelf.now.loads c.args.rollups.now.items c.join.new.rollups.items c.in-Some.rollup c.in_ok-place.place c.args.cell.now c.in_ok-place.ensures c.requires.rollups

pub returns-in-Some-clause-first : goal.returns-in-Some-clause-first
returns-in-Some-clause-first c =
    joined_firsts c.args.history.now.setting.catalog c.args.history.now.entries c.args.shelf.now.loads c.args.rollups.now.items c.join.new.rollups.items c.in-Some.rollup c.in_ok-place.place c.args.cell.now c.in_ok-place.ensures c.requires.rollups c.args.cell.now c.in-Some.rollup
    (sym (rw c.as_slice.ensures.value at c.serving.ensures) ∙ c.in-Some.is)

pub returns-in-Some-clause-goes_on : goal.returns-in-Some-clause-goes_on
returns-in-Some-clause-goes_on c = joined_on c.args.rollups.now.items c.join.new.rollups.items c.in-Some.rollup c.in_ok-place.place c.args.cell.now c.in_ok-place.ensures

pub returns-in-Some-clause-found : goal.returns-in-Some-clause-found
returns-in-Some-clause-found c = joined_at c.args.rollups.now.items c.join.new.rollups.items c.in-Some.rollup c.in_ok-place.place c.args.cell.now c.in_ok-place.ensures

pub find_plan-requires-clause-candidates : goal.find_plan-requires-clause-candidates
find_plan-requires-clause-candidates c =
    rw c.as_slice-2.ensures
    (candidates_known c.args.history.now.setting.catalog c.args.history.now.entries c.args.cell.now c.args.shelf.now.loads c.requires.kept c.in_ok-candidates.candidates c.in_ok-candidates.ensures.members)

pub returns-in-None-clause-found : goal.returns-in-None-clause-found
returns-in-None-clause-found c =
    none_found c.args.history.now.setting.catalog c.args.history.now.entries c.args.cell.now c.args.shelf.now.loads c.requires.kept c.in_ok-candidates.candidates c.in_ok-candidates.ensures.members c.requires.unserved
    (λ measure at. sym ((rw (c.deref.ensures ∙ c.catalog.ensures, c.as_slice-2.ensures) at c.in_ok-find_plan.ensures.found) measure at) ∙ ap is_some c.in-None.is)

pub returns-clause-rollups : goal.returns-clause-rollups
returns-clause-rollups c =
    let measure = known_measure c.args.history.now.setting.catalog c.args.cell.now c.requires.known in
    let planned = (rw (c.deref.ensures ∙ c.catalog.ensures, c.as_slice-2.ensures, c.in-Some-2.is) at c.in_ok-find_plan.ensures.planned) measure.0 measure.1 in
    let plan = plan_found c.args.history.now.setting.catalog c.args.history.now.entries c.args.cell.now c.args.shelf.now.loads c.requires.kept c.in_ok-candidates.candidates c.in-Some-2.plan measure.0 c.in_ok-candidates.ensures.members measure.1 planned in
    subst (All (IsRollup c.args.history.now.setting.catalog c.args.history.now.entries c.args.shelf.now.loads)) (sym c.in_ok-begin-in-Some-2.ensures.1)
    (All-push (IsRollup c.args.history.now.setting.catalog c.args.history.now.entries c.args.shelf.now.loads) c.args.rollups.now.items c.in_ok-begin-in-Some-2.ensures.0 c.requires.rollups
    (begun_is c.args.history.now.setting.catalog c.args.history.now.entries c.args.shelf.now.loads c.in-Some-2.plan c.args.cell.now c.in_ok-begin-in-Some-2.ensures.0 c.requires.known c.requires.unserved plan c.in_ok-begin-in-Some-2.ensures.2))

pub returns-clause-goes_on : goal.returns-clause-goes_on
returns-clause-goes_on c = begun_on c.args.rollups.now.items c.begin.new.rollups.items c.in_ok-begin-in-Some-2.ensures.0 c.in_ok-begin-in-Some-2.ensures.1

pub returns-clause-found : goal.returns-clause-found
returns-clause-found c =
    rw (c.len-rollup.ensures ∙ c.args.rollups.now.ok.0) (begun_at c.args.rollups.now.items c.begin.new.rollups.items c.in-Some-2.plan c.args.cell.now c.in_ok-begin-in-Some-2.ensures.0 c.in_ok-begin-in-Some-2.ensures.1 c.in_ok-begin-in-Some-2.ensures.2)

pub returns-clause-firsts : goal.returns-clause-firsts
returns-clause-firsts c = begun_firsts c.args.shelf.now.loads c.args.rollups.now.items c.begin.new.rollups.items c.in_ok-begin-in-Some-2.ensures.0 c.in_ok-begin-in-Some-2.ensures.1

pub returns-clause-first : goal.returns-clause-first
returns-clause-first c =
    let measure = known_measure c.args.history.now.setting.catalog c.args.cell.now c.requires.known in
    let planned = (rw (c.deref.ensures ∙ c.catalog.ensures, c.as_slice-2.ensures, c.in-Some-2.is) at c.in_ok-find_plan.ensures.planned) measure.0 measure.1 in
    let known = candidates_known c.args.history.now.setting.catalog c.args.history.now.entries c.args.cell.now c.args.shelf.now.loads c.requires.kept c.in_ok-candidates.candidates c.in_ok-candidates.ensures.members in
    begun_first c.args.shelf.now.loads c.args.rollups.now.items c.begin.new.rollups.items c.in-Some-2.plan c.args.cell.now c.in_ok-begin-in-Some-2.ensures.0 c.in_ok-begin-in-Some-2.ensures.1 c.in_ok-begin-in-Some-2.ensures.2
    (sym (rw c.as_slice.ensures.value at c.serving.ensures) ∙ c.in_default.is)
    (candidates_served c.args.shelf.now.loads c.args.cell.now c.in_ok-candidates.candidates c.in-Some-2.plan.parts known planned.known)
    ∙ ap Some (sym (c.len-rollup.ensures ∙ c.args.rollups.now.ok.0))
