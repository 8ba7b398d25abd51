-- A flush of the manager is one of the desk, and the desk keeps what it must.
use Rattle.std.proofs.Common.{ap, subst, sym}
use Rattle.olap_meaning.specs.declared.cells.Who.{Who}
use Rattle.olap_meaning.specs.declared.tables.Setting.{Setting}
use Rattle.history_core.specs.Cache.{CacheOf}
use Rattle.line_session.specs.Desks.{HasFlushed}
use Rattle.manager_desk.specs.Keeping.{IsDesk}
use Rattle.manager_desk.proofs.Calling.{desk_flushed, desk_of, desk_refused, has_flushed}
use Rattle.manager_desk.proofs.seat.ManagerDeskDesk.flush.Goals as goal

pub invariant_of-self : goal.invariant_of-self
invariant_of-self c =
    subst (λ (cache : CacheOf). IsDesk cache.setting.catalog cache.entries c.in-Some.who.call c.self.inside.read) (sym c.in_err-position.ensures.unchanged)
    (desk_refused c.self.inside.manager.setting.catalog c.self.inside.manager.entries c.in-Some.who c.self.inside.last c.self.inside.read c.in-Some.ensures.next c.self.invariant)

pub invariant_of-self-2 : goal.invariant_of-self-2
invariant_of-self-2 c =
    subst (λ (s : Setting). IsDesk s.catalog c.flush.new.self.entries c.in-Some.who.call c.self.inside.read) (sym c.flush.ensures.setting)
    (desk_flushed c.self.inside.manager c.flush.new.self.entries c.in-Some.who c.args.region c.self.inside.last c.self.inside.read c.steps_are_legal.ensures c.in_ok-position.ensures.entry c.in-Some.ensures.next c.self.invariant)

pub returns-clause-flushed : goal.returns-clause-flushed
returns-clause-flushed c =
    subst (λ (cache : CacheOf). HasFlushed (desk_of cache) (desk_of c.flush.new.self) c.args.region c.in_ok-position.position) c.self.view_is
    (has_flushed c.self.inside.manager c.flush.new.self c.in-Some.who c.args.region c.in_ok-position.position (ap (λ (who : Who). who.seat) c.in-Some.ensures.next) c.flush.ensures.setting c.in_ok-position.ensures.entry c.in_ok-position.ensures.position)
