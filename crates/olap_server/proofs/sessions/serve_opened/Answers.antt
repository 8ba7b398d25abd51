-- A session that was served over the desk of a cache.
use Rattle.std.proofs.Common.{ap, arith, ◌∙◌, subst}
use Rattle.shown_values.specs.contracts.formatter.FormatterGivesTexts.TheImpl as formats
use Rattle.segment_header.specs.contracts.widener.WidenerAllowsValues.TheImpl as widens
use Rattle.line_session.specs.Tools.{tools_of}
use Rattle.history_core.specs.Cache.{CacheOf}
use Rattle.line_session.specs.Desks.{GoesOn}
use Rattle.olap_server.specs.Run.{ServesDesk, around_of, desk_over}
use Rattle.olap_server.proofs.RunFacts.{begins_with, ends_run}
use Rattle.olap_server.proofs.sessions.serve_opened.Goals as goal

pub returns-clause-served : goal.returns-clause-served
returns-clause-served g c =
    let start = around_of g.D.Depot.answers g.K.Link.talk g.K.Link.left c.args.depot.now c.args.link.now in
    let finish = around_of g.D.Depot.answers g.K.Link.talk g.K.Link.left c.serve_desk-status.new.depot c.serve_desk-status.new.link in
    let same = c.into_manager-manager.ensures.same in
    let served = c.serve_desk-status.ensures.served in (
      served.0,
      served.1,
      ends_run (tools_of ((formats.answers-value g.dyn-1).it c.args.tools.now.formatter) ((widens.answers-value g.dyn-2).it c.args.tools.now.widener)) (g.D.Depot.files c.args.depot.now) c.args.opened c.serve_desk-status.new.desk c.into_history.result start finish c.serve_desk-status.result served.0
          (c.into_history.ensures.setting ∙ ap (λ (k : CacheOf). k.setting) same) (c.into_history.ensures.entries ∙ ap (λ (k : CacheOf). k.entries) same)
          (subst (λ (k : CacheOf). ServesDesk (tools_of ((formats.answers-value g.dyn-1).it c.args.tools.now.formatter) ((widens.answers-value g.dyn-2).it c.args.tools.now.widener)) (g.D.Depot.files c.args.depot.now) k c.serve_desk-status.new.desk start finish c.serve_desk-status.result served.0) c.new-desk.ensures served.2),
    )

pub returns-clause-at_least : goal.returns-clause-at_least
returns-clause-at_least g c = let read = c.serve_desk-status.ensures.served.1 in omega (arith, read)

pub returns-clause-legal : goal.returns-clause-legal
returns-clause-legal g c = rw (c.into_history.ensures.setting, c.into_history.ensures.entries) c.steps_are_legal.ensures

pub returns-clause-begins : goal.returns-clause-begins
returns-clause-begins g c =
    let same = c.into_manager-manager.ensures.same in
    begins_with c.args.opened c.serve_desk-status.new.desk c.into_history.result
    (c.into_history.ensures.setting ∙ ap (λ (k : CacheOf). k.setting) same) (c.into_history.ensures.entries ∙ ap (λ (k : CacheOf). k.entries) same)
    (subst (λ (k : CacheOf). GoesOn (desk_over k) (desk_over c.serve_desk-status.new.desk)) c.new-desk.ensures c.serve_desk-status.ensures.grown)
