-- What an ask of the manager adds is what the desk has asked, and the desk keeps what it must.
use Rattle.std.proofs.Common.{◌+◌, ◌∙◌, ap, refl, subst, sym}
use Rattle.olap_meaning.specs.declared.cells.Who.{Who}
use Rattle.olap_meaning.specs.declared.tables.Setting.{Setting}
use Rattle.olap_meaning.specs.Legal.{is_next_call}
use Rattle.olap_meaning.proofs.Lists.{on_err}
use Rattle.history_core.specs.Cache.{CacheOf}
use Rattle.segment_header.specs.contracts.widener.WidenerAllowsValues.TheImpl.{answers-value}
use Rattle.segment_header.specs.Widening.{Widened}
use Rattle.line_session.specs.Desks.{HasAsked, HasNotAsked}
use Rattle.manager_desk.specs.Keeping.{IsCount}
use Rattle.manager_desk.proofs.Calling.{desk_of, has_asked, has_not_asked, next_answered, next_refused, nothing_asked}
use Rattle.manager_desk.proofs.seat.ManagerDeskDesk.ask.Goals as goal

pub returns-in_default-clause-refused : goal.returns-in_default-clause-refused
returns-in_default-clause-refused g c =
    subst (λ (cache : CacheOf). HasNotAsked (Widened ((answers-value g.dyn-1).it c.args.widener.now)) (desk_of cache) (desk_of cache) c.args.cells.now) c.self.view_is
    (nothing_asked (Widened ((answers-value g.dyn-1).it c.args.widener.now)) c.self.inside.manager (record { seat = 1; call = c.self.inside.last + 1 }) c.args.cells.now c.self.invariant.idle refl c.self.invariant.next)

pub invariant_of-self : goal.invariant_of-self
invariant_of-self g c = record {
  idle = c.ask.ensures.idle;
  next = next_refused (Widened ((answers-value g.dyn-1).it c.args.widener.now)) c.self.inside.manager c.ask.new.manager c.in-Some.who c.args.cells.now c.self.inside.last c.in-Some.ensures.next c.in_err-answer.ensures.refused c.self.invariant.next;
  count = subst (λ (s : Setting). IsCount s.catalog c.ask.new.manager.entries c.ask.new.read) (sym c.in_err-answer.ensures.refused.setting) c.ask.ensures.count;
}

pub returns-in_err-answer-clause-refused : goal.returns-in_err-answer-clause-refused
returns-in_err-answer-clause-refused g c =
    on_err c.from_residual.result
    (subst (λ (cache : CacheOf). HasNotAsked (Widened ((answers-value g.dyn-1).it c.args.widener.now)) (desk_of cache) (desk_of c.ask.new.manager) c.args.cells.now) c.self.view_is
    (has_not_asked (Widened ((answers-value g.dyn-1).it c.args.widener.now)) c.self.inside.manager c.in-Some.who c.args.cells.now c.ask.new.manager c.ask.ensures.idle (ap (λ (who : Who). who.seat) c.in-Some.ensures.next)
    (ap (is_next_call c.self.inside.manager.entries) c.in-Some.ensures.next ∙ c.self.invariant.next) c.in_err-answer.ensures.refused))

pub invariant_of-self-2 : goal.invariant_of-self-2
invariant_of-self-2 g c = record {
  idle = c.ask.ensures.idle;
  next = next_answered (Widened ((answers-value g.dyn-1).it c.args.widener.now)) c.self.inside.manager c.ask.new.manager c.in-Some.who c.args.cells.now c.in_ok-answer.answer c.self.inside.last c.in-Some.ensures.next c.in_ok-answer.ensures.answered c.self.invariant.next;
  count = subst (λ (s : Setting). IsCount s.catalog c.ask.new.manager.entries c.ask.new.read) (sym c.in_ok-answer.ensures.answered.setting) c.ask.ensures.count;
}

pub returns-clause-asked : goal.returns-clause-asked
returns-clause-asked g c =
    subst (λ (cache : CacheOf). HasAsked (Widened ((answers-value g.dyn-1).it c.args.widener.now)) (desk_of cache) (desk_of c.ask.new.manager) c.args.cells.now c.in_ok-answer.answer) c.self.view_is
    (has_asked (Widened ((answers-value g.dyn-1).it c.args.widener.now)) c.self.inside.manager c.in-Some.who c.args.cells.now c.ask.new.manager c.in_ok-answer.answer c.ask.ensures.idle (ap (λ (who : Who). who.seat) c.in-Some.ensures.next) c.in_ok-answer.ensures.answered)
