-- A table that the manager builds is one of the desk, and the desk keeps what it must.
use Rattle.std.proofs.Common.{ap, arith, subst, sym, ◌≡◌, ◌+◌}
use Rattle.olap_meaning.specs.declared.cells.Who.{Who}
use Rattle.olap_meaning.specs.declared.tables.Setting.{Setting}
use Rattle.history_core.specs.Cache.{CacheOf}
use Rattle.line_session.specs.Desks.{HasBuilt, costs_between}
use Rattle.manager_desk.specs.Keeping.{IsDesk}
use Rattle.manager_desk.proofs.Calling.{cost_built, desk_built, desk_of, desk_refused, has_built}
use Rattle.manager_desk.proofs.seat.ManagerDeskDesk.build_agg.Goals as goal

pub invariant_of-self : goal.invariant_of-self
invariant_of-self g c =
    subst (λ (cache : CacheOf). IsDesk cache.setting.catalog cache.entries c.in-Some.who.call c.self.inside.read) (sym c.in_err-built.ensures.unchanged)
    (desk_refused c.self.inside.manager.setting.catalog c.self.inside.manager.entries c.in-Some.who c.self.inside.last c.self.inside.read c.in-Some.ensures.next c.self.invariant)

pub invariant_of-self-2 : goal.invariant_of-self-2
invariant_of-self-2 g c =
    subst (λ (s : Setting). IsDesk s.catalog c.build_agg.new.self.entries c.in-Some.who.call c.self.inside.read) (sym c.build_agg.ensures.setting)
    (desk_built c.self.inside.manager c.build_agg.new.self.entries c.in-Some.who c.args.table c.in_ok-built.built.version c.self.inside.last c.self.inside.read c.steps_are_legal.ensures c.in_ok-built.ensures.entry c.in-Some.ensures.next c.self.invariant)

pub returns-clause-built : goal.returns-clause-built
returns-clause-built g c =
    subst (λ (cache : CacheOf). HasBuilt (desk_of cache) (desk_of c.build_agg.new.self) c.args.table c.in_ok-built.built) c.self.view_is
    (has_built c.self.inside.manager c.build_agg.new.self c.in-Some.who c.args.table c.in_ok-built.built (ap (λ (who : Who). who.seat) c.in-Some.ensures.next) c.build_agg.ensures.setting c.in_ok-built.ensures.entry c.in_ok-built.ensures.position c.in_ok-built.ensures.version c.in_ok-built.ensures.groups)

pub returns-clause-cost : goal.returns-clause-cost
returns-clause-cost g c =
    let cost = cost_built c.self.inside.manager c.build_agg.new.self c.in-Some.who c.args.table c.in_ok-built.built.version (ap (λ (who : Who). who.seat) c.in-Some.ensures.next) c.in_ok-built.ensures.entry c.in_ok-built.ensures.version in
    subst (λ (cache : CacheOf). c.build_agg.new.steps ≡ c.args.steps.now + costs_between (desk_of cache) (desk_of c.build_agg.new.self)) c.self.view_is (omega (arith, cost, c.in_ok-built.ensures.cost))
