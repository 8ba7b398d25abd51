-- A look at what the manager keeps is one of the desk, and the desk keeps what it must.
use Rattle.std.proofs.Common.{ap, subst, sym}
use Rattle.olap_meaning.specs.declared.cells.Who.{Who}
use Rattle.olap_meaning.specs.declared.tables.Setting.{Setting}
use Rattle.history_core.specs.Cache.{CacheOf}
use Rattle.line_session.specs.Desks.{HasShown}
use Rattle.manager_desk.specs.Keeping.{IsDesk}
use Rattle.manager_desk.proofs.Calling.{desk_of, desk_refused, desk_shown, has_shown}
use Rattle.manager_desk.proofs.seat.ManagerDeskDesk.show.Goals as goal

pub invariant_of-self : goal.invariant_of-self
invariant_of-self c =
    subst (λ (cache : CacheOf). IsDesk cache.setting.catalog cache.entries c.in-Some.who.call c.self.inside.read) (sym c.in_err-view.ensures.unchanged)
    (desk_refused c.self.inside.manager.setting.catalog c.self.inside.manager.entries c.in-Some.who c.self.inside.last c.self.inside.read c.in-Some.ensures.next c.self.invariant)

pub invariant_of-self-2 : goal.invariant_of-self-2
invariant_of-self-2 c =
    subst (λ (s : Setting). IsDesk s.catalog c.show.new.self.entries c.in-Some.who.call c.self.inside.read) (sym c.show.ensures.setting)
    (desk_shown c.self.inside.manager c.show.new.self.entries c.in-Some.who c.self.inside.last c.self.inside.read c.steps_are_legal.ensures c.in_ok-view.ensures.entry c.in-Some.ensures.next c.self.invariant)

pub returns-clause-shown : goal.returns-clause-shown
returns-clause-shown c =
    subst (λ (cache : CacheOf). HasShown (desk_of cache) (desk_of c.show.new.self) c.in_ok-view.view) c.self.view_is
    (has_shown c.self.inside.manager c.show.new.self c.in-Some.who c.in_ok-view.view (ap (λ (who : Who). who.seat) c.in-Some.ensures.next) c.show.ensures.setting c.in_ok-view.ensures.entry c.in_ok-view.ensures.position c.in_ok-view.ensures.lines)
