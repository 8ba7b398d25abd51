-- An append to the manager is one of the desk, and the desk keeps what it must.
use Rattle.std.proofs.Common.{◌+◌, ap, subst, sym}
use Rattle.olap_meaning.specs.declared.cells.Who.{Who}
use Rattle.olap_meaning.specs.declared.tables.Setting.{Setting}
use Rattle.olap_meaning.specs.History.{version}
use Rattle.history_core.specs.Cache.{CacheOf}
use Rattle.line_session.specs.Desks.{HasAppended}
use Rattle.manager_desk.specs.Keeping.{IsDesk}
use Rattle.manager_desk.proofs.Calling.{desk_appended, desk_of, desk_refused, has_appended}
use Rattle.manager_desk.proofs.seat.ManagerDeskDesk.append.Goals as goal

pub invariant_of-self : goal.invariant_of-self
invariant_of-self c =
    subst (λ (cache : CacheOf). IsDesk cache.setting.catalog cache.entries c.in-Some.who.call c.self.inside.read) (sym c.in_err-appended.ensures.unchanged)
    (desk_refused c.self.inside.manager.setting.catalog c.self.inside.manager.entries c.in-Some.who c.self.inside.last c.self.inside.read c.in-Some.ensures.next c.self.invariant)

pub invariant_of-self-2 : goal.invariant_of-self-2
invariant_of-self-2 c =
    subst (λ (s : Setting). IsDesk s.catalog c.append.new.self.entries c.in-Some.who.call c.self.inside.read) (sym c.append.ensures.setting)
    (desk_appended c.self.inside.manager c.append.new.self.entries c.in-Some.who c.args.cube (version c.self.inside.manager.entries c.args.cube + 1) c.args.batch.rows c.self.inside.last c.self.inside.read c.steps_are_legal.ensures c.in_ok-appended.ensures.entry
    c.in-Some.ensures.next c.self.invariant)

pub returns-clause-appended : goal.returns-clause-appended
returns-clause-appended c =
    subst (λ (cache : CacheOf). HasAppended (desk_of cache) (desk_of c.append.new.self) c.args.cube c.args.batch.rows c.in_ok-appended.appended) c.self.view_is
    (has_appended c.self.inside.manager c.append.new.self c.in-Some.who c.args.cube c.args.batch.rows c.in_ok-appended.appended (ap (λ (who : Who). who.seat) c.in-Some.ensures.next) c.append.ensures.setting c.in_ok-appended.ensures.entry
    c.in_ok-appended.ensures.admitted c.in_ok-appended.ensures.position c.in_ok-appended.ensures.version)
