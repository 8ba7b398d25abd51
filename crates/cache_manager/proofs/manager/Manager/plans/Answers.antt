-- Each group has its cells, of which its first one is, and its load is numbered after the last one.
use Rattle.std.proofs.Common.{◌≡◌, ◌∙◌, ◌+◌, ◌<◌, List, subst, arith, filter, get_or, length, map, take}
use Rattle.std.proofs.lemmas.List.{length-map, length-take-le, map_push}
use Rattle.olap_meaning.specs.declared.cells.Cell.{Cell}
use Rattle.olap_meaning.proofs.Lists.{take_step}
use Rattle.segment_header.specs.contracts.widener.WidenerAllowsValues.TheImpl.{answers-value}
use Rattle.segment_header.specs.Widening.{Widened}
use Rattle.history_core.specs.Groups.{alike}
use Rattle.cell_groups.specs.Lent.{lent}
use Rattle.cell_groups.specs.declared.groups.Group.{Group}
use Rattle.cache_manager.specs.Plans.{IsPrepared}
use Rattle.cache_manager.proofs.Grouping.{contains_at, first_wanted, group_at, group_known, group_place}
use Rattle.cache_manager.proofs.Looking.{kept_pass}
use Rattle.cache_manager.proofs.Starting.{prepared_more}
use Rattle.cache_manager.proofs.manager.Manager.plans.Goals as goal

pub plan-requires-clause-known : goal.plan-requires-clause-known
plan-requires-clause-known g c =
    let items = c.as_slice-group-items.ensures.value in
    let own = group_at (lent c.args.wanted.now) c.in_ok-groups.groups.items c.loop-group.group-index c.group-item.result c.in_ok-groups.ensures.cells (subst (λ (gs : List Group). c.loop-group.group-index < length gs) items c.loop-group-test.true) (subst (λ (gs : List Group). c.group-item.result ≡ get_or gs c.loop-group.group-index c.group-item.result) items c.group-item.is) in
    rw own (group_known c.args.self.now.setting.catalog (alike c.group-item.result.first.now) (lent c.args.wanted.now) c.requires.known)

pub plan-requires-clause-alike : goal.plan-requires-clause-alike
plan-requires-clause-alike g c =
    let items = c.as_slice-group-items.ensures.value in
    let own = group_at (lent c.args.wanted.now) c.in_ok-groups.groups.items c.loop-group.group-index c.group-item.result c.in_ok-groups.ensures.cells (subst (λ (gs : List Group). c.loop-group.group-index < length gs) items c.loop-group-test.true) (subst (λ (gs : List Group). c.group-item.result ≡ get_or gs c.loop-group.group-index c.group-item.result) items c.group-item.is) in
    rw own (kept_pass (alike c.group-item.result.first.now) (lent c.args.wanted.now))

pub plan-requires-clause-among : goal.plan-requires-clause-among
plan-requires-clause-among g c =
    let items = c.as_slice-group-items.ensures.value in
    let within = subst (λ (gs : List Group). c.loop-group.group-index < length gs) items c.loop-group-test.true in
    let is = subst (λ (gs : List Group). c.group-item.result ≡ get_or gs c.loop-group.group-index c.group-item.result) items c.group-item.is in
    let own = group_at (lent c.args.wanted.now) c.in_ok-groups.groups.items c.loop-group.group-index c.group-item.result c.in_ok-groups.ensures.cells within is in
    let place = group_place c.group-item.result.first.now (lent c.args.wanted.now) (first_wanted (lent c.args.wanted.now) c.in_ok-groups.groups.items c.loop-group.group-index c.group-item.result c.in_ok-groups.ensures.firsts within is) in
    rw own (contains_at (filter (alike c.group-item.result.first.now) (lent c.args.wanted.now)) place.0 c.group-item.result.first.now place.1)

pub loop-group-preserved : goal.loop-group-preserved
loop-group-preserved g c =
    let items = c.as_slice-group-items.ensures.value in
    let within = subst (λ (gs : List Group). c.loop-group.group-index < length gs) items c.loop-group-test.true in
    let is = subst (λ (gs : List Group). c.group-item.result ≡ get_or gs c.loop-group.group-index c.group-item.result) items c.group-item.is in
    let own = group_at (lent c.args.wanted.now) c.in_ok-groups.groups.items c.loop-group.group-index c.group-item.result c.in_ok-groups.ensures.cells within is in
    let first : Group → Cell = λ group. group.first.now in
    let many : length (map first (take c.loop-group.group-index c.as_slice-group-items.result.now)) ≡ c.loop-group.group-index =
    length-map (take c.loop-group.group-index c.as_slice-group-items.result.now) first ∙ length-take-le c.loop-group.group-index c.as_slice-group-items.result.now c.loop-group.auto.group-index-end in
    record {
      planned =
          rw (take_step c.as_slice-group-items.result.now c.loop-group.group-index c.group-item.result c.loop-group-test.true c.group-item.is, map_push first (take c.loop-group.group-index c.as_slice-group-items.result.now) c.group-item.result, c.in_ok-push.ensures.items)
          (prepared_more (Widened ((answers-value g.dyn-1).it c.args.widener.now)) c.args.self.now c.args.who (lent c.args.wanted.now) (length c.args.self.now.entries + 1) _ c.loop-group.plans.items c.loop-group.load c.group-item.result.first.now _ c.loop-group.invariant.planned
          (omega (arith, c.loop-group.invariant.number, many))
          (subst (λ (cs : List Cell). IsPrepared (Widened ((answers-value g.dyn-1).it c.args.widener.now)) c.args.self.now c.args.who cs c.loop-group.load c.group-item.result.first.now c.in_ok-plan.field-0) own c.in_ok-plan.ensures));
      number = omega (arith, c.in_ok-load-2.ensures, c.loop-group.invariant.number);
    }
