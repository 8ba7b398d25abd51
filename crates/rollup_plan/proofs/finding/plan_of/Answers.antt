use Rattle.std.proofs.Common.{◌∙◌, List, Bor, filter, length, sym, ap, subst, arith, vec_len}
use Rattle.std.specs.Prelude.{All, IsTrue}
use Rattle.std.proofs.lemmas.Bool.{eqb-true}
use Rattle.std.proofs.lemmas.List.{length-map}
use Rattle.std.proofs.lemmas.List.Elements.{filter_passes}
use Rattle.olap_meaning.specs.Rolled.{value_count}
use Rattle.cache_flush.specs.Loads.{KeptOf, kept_of}
use Rattle.cache_flush.specs.declared.kept.Kept.{Kept}
use Rattle.rollup_plan.specs.Picks.{IsPickedFrom, are_kin, kin_splits, lent}
use Rattle.rollup_plan.proofs.KindFacts.{picked_begins, left_later, fewer_later, first_picked, all_left, none_left}
use Rattle.rollup_plan.proofs.finding.plan_of.Goals as goal

pub kinds-init : goal.kinds-init
kinds-init c = rw c.in_ok-rest.ensures.items (all_left (value_count c.args.catalog.now) c.args.cell.now (lent c.args.kept.now) c.requires)

pub plan_of_kin-requires : goal.plan_of_kin-requires
plan_of_kin-requires c =
    let first = kept_of c.newest-first.result.now in
    let kin = ap lent c.as_slice-in-kinds-2.ensures.value ∙ c.in_ok-kin.ensures ∙ ap (λ (xs : List (Bor Kept)). filter (are_kin first) (lent xs)) c.as_slice-in-kinds.ensures.value in
    subst (λ (kin : List KeptOf). All (λ one. IsTrue (are_kin first one)) kin) (sym kin) (filter_passes (are_kin first) (lent c.kinds.rest.items))

pub returns-in-Some-clause-plan : goal.returns-in-Some-clause-plan
returns-in-Some-clause-plan c =
    let size = value_count c.args.catalog.now in
    let first = kept_of c.newest-first.result.now in
    let kin = ap lent c.as_slice-in-kinds-2.ensures.value ∙ c.in_ok-kin.ensures ∙ ap (λ (xs : List (Bor Kept)). filter (are_kin first) (lent xs)) c.as_slice-in-kinds.ensures.value in
    let told = rw c.in-Some.is at c.in_ok-plan.ensures.plan in
    first_picked size c.args.cell.now (lent c.args.kept.now) c.requires (lent c.kinds.rest.items) c.kinds.invariant first (rw c.as_slice.ensures.value at c.newest-first.ensures.member) c.in-Some.plan
    (rw c.as_slice.ensures.value at c.newest-first.ensures.newest) told.0 (subst (λ (kin : List KeptOf). IsPickedFrom size c.args.cell.now kin c.in-Some.plan) kin told.1)

pub returns-in-Some-clause-found : goal.returns-in-Some-clause-found
returns-in-Some-clause-found c = sym (picked_begins (value_count c.args.catalog.now) c.args.cell.now (lent c.args.kept.now) c.requires c.in-Some.plan (returns-in-Some-clause-plan c))

pub kinds-smaller : goal.kinds-smaller
kinds-smaller c =
    let first = kept_of c.newest-first.result.now in
    let less = fewer_later (value_count c.args.catalog.now) c.args.cell.now (lent c.args.kept.now) c.requires (lent c.kinds.rest.items) c.kinds.invariant first (rw c.as_slice.ensures.value at c.newest-first.ensures.member) in
    let same = ap length c.leave_kin.ensures in
    omega (arith, less, same, length-map c.kinds.rest.items (λ (one : Bor Kept). kept_of one.now), length-map c.leave_kin.new.kept.items (λ (one : Bor Kept). kept_of one.now))

pub kinds-preserved : goal.kinds-preserved
kinds-preserved c =
    let size = value_count c.args.catalog.now in
    let first = kept_of c.newest-first.result.now in
    let kin = ap lent c.as_slice-in-kinds-2.ensures.value ∙ c.in_ok-kin.ensures ∙ ap (λ (xs : List (Bor Kept)). filter (are_kin first) (lent xs)) c.as_slice-in-kinds.ensures.value in
    let none = rw c.in_default.is at c.in_ok-plan.ensures.found in
    rw c.leave_kin.ensures
    (left_later size c.args.cell.now (lent c.args.kept.now) c.requires (lent c.kinds.rest.items) c.kinds.invariant first (rw c.as_slice.ensures.value at c.newest-first.ensures.member) (ap (kin_splits size c.args.cell.now first) (sym kin) ∙ sym none))

pub returns-clause-found : goal.returns-clause-found
returns-clause-found c =
    let empty = eqb-true (vec_len c.kinds.rest) 0 (sym c.is_empty.ensures ∙ c.kinds-test.false) in
    let count = length-map c.kinds.rest.items (λ (one : Bor Kept). kept_of one.now) in
    sym (none_left (value_count c.args.catalog.now) c.args.cell.now (lent c.args.kept.now) c.requires (lent c.kinds.rest.items) (omega (arith, empty, count, c.kinds.rest.ok.0)) c.kinds.invariant)
